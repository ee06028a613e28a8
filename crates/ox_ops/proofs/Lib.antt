mod Sizes
mod WriteSizes
