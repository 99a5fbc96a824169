mod Computed
mod Script
