-- What the pointers of a tree spell over a map from VVBNs to blocks: the definitions of fv_tables.
pub use Rattle.fv_tables.specs.Spelled.{Under, hole, position, pointers_of, pointers_in, Kept, Rooted, stored, kept_or, stamp_in, block_or}
unfoldable pub use Rattle.fv_tables.specs.Spelled.{pointers_at, pointer_below, pointer_at, block_at}
