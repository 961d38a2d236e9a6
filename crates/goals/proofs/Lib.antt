mod Feeds
mod Lines
mod Pairs
mod Parts
mod Places
mod Signs
