-- How often each block is held, as it is counted.
use Rattle.std.specs.Prelude.{◌≡◌, ◌≢◌, ◌<◌, ◌+◌, ◌-◌, min, ℕ, false, List, length, count_by, ◌==◌, if◌then◌else◌}
use Rattle.std.specs.Option.{option_map_or}
use Rattle.std.specs.Ordering.{nat_cmp}
use Rattle.std.specs.BTreeMap as maps
use Rattle.fv_bits.specs.Members.{is_member}
use Rattle.fv_third_pass.specs.declared.holders.Holders.{Holders}

-- how often a number stands in a list
abbrev pub times : ℕ → List ℕ → ℕ
times b list = count_by (λ x. x == b) list

-- how often a block is held beside the first time
abbrev pub further : Holders → ℕ → ℕ
further h b = option_map_or (λ n. n) (maps.get nat_cmp h.again b) 0

-- how often it is held
abbrev pub holds : Holders → ℕ → ℕ
holds h b = if is_member h.held b then further h b + 1 else 0

-- the number at which a count stays
abbrev pub most : ℕ
most = 4294967296

-- The counts are those of a list of held blocks, of each that is one of the aggregate's.
pub record Tallies (list : List ℕ) (h : Holders) : Type 0 where
  pub each : (b : ℕ) → b < length h.held → holds h b ≡ min most (times b list)
  pub fresh : (b : ℕ) → is_member h.held b ≡ false → further h b ≡ 0

-- one block is held once more beside the first time, up to the greatest number
pub record Raised (at : ℕ) (old new : Holders) : Type 0 where
  pub here : further new at ≡ min (most - 1) (further old at + 1)
  pub others : (b : ℕ) → b ≢ at → further new b ≡ further old b
