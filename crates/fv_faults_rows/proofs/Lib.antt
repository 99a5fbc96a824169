mod Computing
mod EarlyRows
mod LateRows
mod WholeRow
