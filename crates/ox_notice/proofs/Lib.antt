mod Readings
mod Trims
