pub mod Failures
pub mod Asking
pub mod Words
pub mod Division
pub mod Printed
