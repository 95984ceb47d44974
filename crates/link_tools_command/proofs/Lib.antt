mod Builds
mod Numbers
mod Stopped
mod Taken
