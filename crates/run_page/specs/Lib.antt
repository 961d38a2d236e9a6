pub mod Styles
pub mod Stacks
pub mod Traffic
pub mod Health
pub mod Page
