mod Numbers
mod Opened
