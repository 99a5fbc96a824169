-- Labels: what was written is read again.
use Rattle.std.proofs.Common.{◌≡◌, ℕ, min, true, ◌==◌, List, [], ◌∷◌, ◌++◌, length, drop, lit<, lit≤, Ok, refl, arith, ap, ◌∙◌, append_assoc, length-append}
use Rattle.std.specs.List.{flat_map, All, AllByRecursion}
use Rattle.std.proofs.lemmas.List.Elements.{All-head, All-tail}
use Rattle.fv_codec.specs.declared.label.SnapRecord.{SnapRecord}
use Rattle.fv_codec.specs.declared.label.Label.{Label}
use Rattle.fv_codec.specs.Bytes.{word, zeros}
use Rattle.fv_codec.specs.Fields.{up_to}
use Rattle.fv_codec.specs.Blocks.{last_place, most_stamps, is_used, asks_pointer, pointer_of, snap_fields, asks_snap, snap_of, IsSnapRecord, label_fields, label_at, IsLabel}
use Rattle.fv_codec.specs.Spelling.{pointer_bytes, snap_bytes, label_numbers, label_head, label_bytes}
use Rattle.fv_codec.proofs.Numbers.{Standing, standing, word_said, step_said, zeros_said, zeros_last, past, past_word, past_zeros, name_said, run_there, all_said, length-word, length-zeros, up_to-le}
use Rattle.fv_codec.proofs.Items.{ReadsBack, items_said, items_there, past_items}
use Rattle.fv_codec.proofs.Nodes.{pointer_again, length-pointer}

-- ---- a snapshot's record

length-snap : (s : SnapRecord) → length s.name ≡ 64 → length (snap_bytes s) ≡ 128
unfolding snap_bytes
length-snap s long = simp (length-append, length-word, length-zeros, length-pointer, long) refl

-- a record's parts, whatever follows: its words, and the zero bytes at its end
record Parts (s : SnapRecord) (rest : List ℕ) : Type 0 where
  first : Standing 0 s.name_length (snap_bytes s ++ rest) (s.name ++ (word s.levels ++ (pointer_bytes s.root ++ (zeros 24 ++ rest))))
  levels : Standing 72 s.levels (snap_bytes s ++ rest) (pointer_bytes s.root ++ (zeros 24 ++ rest))
  filled : drop 104 (snap_bytes s ++ rest) ≡ zeros 24 ++ rest

parts : (s : SnapRecord) (rest : List ℕ) → IsSnapRecord s → Parts s rest
unfolding snap_bytes
parts s rest is =
    let b = snap_bytes s ++ rest in
    let d0 : b ≡ word s.name_length ++ (s.name ++ (word s.levels ++ (pointer_bytes s.root ++ (zeros 24 ++ rest)))) = simp append_assoc in
    let first = standing 0 s.name_length b _ d0 (omega (arith, is.name_length)) in
    let levels = standing 72 s.levels b _ (past 8 64 s.name b _ is.name_long first.next) (omega (arith, is.levels, up_to-le (is_used s.name_length) 2)) in
    record { first = first; levels = levels; filled = past 80 24 (pointer_bytes s.root) b _ (length-pointer s.root) levels.next }

snap_again : (s : SnapRecord) → IsSnapRecord s → ReadsBack 128 snap_bytes asks_snap snap_of s
unfolding asks_snap snap_of
snap_again s is =
    let used = is_used s.name_length in
    let root = pointer_again used s.root is.root in
    record {
      long = length-snap s is.name_long;
      fine = λ rest. let b = snap_bytes s ++ rest in let p = parts s rest is in all_said (snap_fields b) b (
        word_said 0 0 64 s.name_length b _ p.first.here p.first.small (omega arith) is.name_length,
        (
          rw p.first.there (name_said 8 s.name_length s.name b _ p.first.next is.name_long is.name),
          (
            rw p.first.there (word_said 72 0 (up_to used 2) s.levels b _ p.levels.here p.levels.small (omega arith) is.levels),
            (
              rw (p.first.there, p.levels.next) (root.fine (zeros 24 ++ rest)),
              (zeros_said 104 24 b _ p.filled, tt),
            ),
          ),
        ),
      );
      same = λ rest. let b = snap_bytes s ++ rest in let p = parts s rest is in rw (p.first.there, run_there 8 64 s.name b _ p.first.next is.name_long, p.levels.there, p.levels.next, root.same (zeros 24 ++ rest)) refl;
    }

snaps_again : (ss : List SnapRecord) → All IsSnapRecord ss → AllByRecursion (ReadsBack 128 snap_bytes asks_snap snap_of) ss
snaps_again [] are = tt
snaps_again (s ∷ ss) are = (snap_again s (All-head IsSnapRecord s ss are), snaps_again ss (All-tail IsSnapRecord s ss are))

-- ---- a label

-- the label's parts, one after the other
pub split : (l : Label) → label_bytes l ≡ word 0x46564c4142454c30 ++ (word l.name_length ++ (l.name ++ (word l.kind ++ (word l.size ++ (word l.most ++ (word l.span ++ (word l.now ++ (word l.parent ++ (word l.base_slot ++ (word l.splitting ++ (word l.known ++ (word l.container ++ (word l.height ++ (word l.levels ++ (pointer_bytes l.root ++ (zeros 56 ++ (flat_map snap_bytes l.snapshots ++ (zeros 768))))))))))))))))))
unfolding label_head label_numbers
split l = simp append_assoc

pub label_again : (l : Label) → IsLabel l → length l.name ≡ 64 → length l.snapshots ≡ 24 → label_at (label_bytes l) ≡ Ok l
unfolding label_at
label_again l is name snapshots =
    let b = label_bytes l in
    let mark : ℕ = 0x46564c4142454c30 in
    let based = is_used l.parent in
    let d0 = split l in
    let d8 = past_word 0 mark b _ d0 in
    let k8 = standing 8 l.name_length b _ d8 (omega (arith, is.name_greatest)) in
    let d80 = past 16 64 l.name b _ name k8.next in
    let k80 = standing 80 l.kind b _ d80 (omega (arith, is.kind)) in
    let k88 = standing 88 l.size b _ k80.next (omega (arith, is.size_greatest)) in
    let k96 = standing 96 l.most b _ k88.next (omega (arith, is.most_greatest)) in
    let k104 = standing 104 l.span b _ k96.next (omega (arith, is.span_greatest)) in
    let k112 = standing 112 l.now b _ k104.next (omega (arith, is.now)) in
    let k120 = standing 120 l.parent b _ k112.next (omega (arith, is.parent)) in
    let k128 = standing 128 l.base_slot b _ k120.next (omega (arith, is.base_greatest, up_to-le based 24)) in
    let k136 = standing 136 l.splitting b _ k128.next (omega (arith, is.splitting, up_to-le based 1)) in
    let k144 = standing 144 l.known b _ k136.next (omega (arith, is.known, up_to-le (l.splitting == 0) 1)) in
    let k152 = standing 152 l.container b _ k144.next (omega (arith, is.container)) in
    let k160 = standing 160 l.height b _ k152.next (omega (arith, is.height_greatest)) in
    let k168 = standing 168 l.levels b _ k160.next (omega (arith, is.levels)) in
    let d200 = past 176 24 (pointer_bytes l.root) b _ (length-pointer l.root) k168.next in
    let d256 = past_zeros 200 56 b _ d200 in
    let snaps = snaps_again l.snapshots is.snapshots in
    let d3328 = past_items 256 24 128 snap_bytes asks_snap snap_of l.snapshots b (zeros 768) snapshots snaps d256 in
    let root = pointer_again true l.root is.root in
    let all = all_said (label_fields b) b (
      word_said 0 mark mark mark b _ d0 (lit< tt) (lit≤ tt) (lit≤ tt),
      (
        word_said 8 1 64 l.name_length b _ k8.here k8.small is.name_least is.name_greatest,
        (
          rw k8.there (name_said 16 l.name_length l.name b _ k8.next name is.name),
          (
            word_said 80 0 2 l.kind b _ k80.here k80.small (omega arith) is.kind,
            (
              rw k96.there (word_said 88 1 (min 500000 l.most) l.size b _ k88.here k88.small is.size_least is.size_greatest),
              (
                word_said 96 2 1000000 l.most b _ k96.here k96.small is.most_least is.most_greatest,
                (
                  step_said 104 4096 4096 1048576 l.span b _ k104.here k104.small is.span_least is.span_greatest is.span_step,
                  (
                    word_said 112 0 most_stamps l.now b _ k112.here k112.small (omega arith) is.now,
                    (
                      word_said 120 0 64 l.parent b _ k120.here k120.small (omega arith) is.parent,
                      (
                        rw k120.there (word_said 128 (up_to based 1) (up_to based 24) l.base_slot b _ k128.here k128.small is.base_least is.base_greatest),
                        (
                          rw k120.there (word_said 136 0 (up_to based 1) l.splitting b _ k136.here k136.small (omega arith) is.splitting),
                          (
                            rw k136.there (word_said 144 0 (up_to (l.splitting == 0) 1) l.known b _ k144.here k144.small (omega arith) is.known),
                            (
                              word_said 152 0 last_place l.container b _ k152.here k152.small (omega arith) is.container,
                              (
                                word_said 160 1 2 l.height b _ k160.here k160.small is.height_least is.height_greatest,
                                (
                                  word_said 168 0 2 l.levels b _ k168.here k168.small (omega arith) is.levels,
                                  (
                                    ap (asks_pointer true) k168.next ∙ root.fine _,
                                    (
                                      zeros_said 200 56 b _ d200,
                                      (
                                        items_said 256 24 128 snap_bytes asks_snap snap_of l.snapshots b (zeros 768) snapshots snaps d256,
                                        (zeros_last 3328 768 b d3328, tt),
                                      ),
                                    ),
                                  ),
                                ),
                              ),
                            ),
                          ),
                        ),
                      ),
                    ),
                  ),
                ),
              ),
            ),
          ),
        ),
      ),
    ) in
    rw (all, k8.there, run_there 16 64 l.name b _ k8.next name, k80.there, k88.there, k96.there, k104.there, k112.there, k120.there, k128.there, k136.there, k144.there, k152.there, k160.there, k168.there, ap pointer_of k168.next ∙ root.same _, items_there 256 24 128 snap_bytes asks_snap snap_of l.snapshots b (zeros 768) snapshots snaps d256) refl
