pub mod Causes
mod Few
mod Paged
mod Pairs
mod Refused
mod Tables
mod Ways
mod Printed
