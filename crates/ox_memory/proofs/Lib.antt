mod Moments
mod Placing
mod Taken
