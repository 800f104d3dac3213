mod Inputs
mod Showing
mod Writing
