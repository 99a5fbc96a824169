-- What each call says of the map that a caller sees, from what the functions over words say.
use Rattle.std.proofs.Common.{◌≡◌, ℕ, Option, IfSome, IfNone, ◌-◌, ◌*◌, ◌<◌, ◌≤◌, List, length, set, Bool, true, false, count_by, sym, ap, ap₂, subst, ◌∙◌, arith}
use Rattle.std.specs.List.{range_with_len}
use Rattle.fv_bits.specs.Members.{is_member, apart_between, count_between, count_of, HasNoneFrom, IsFirstFree, IsFirstMember, IsFullFrom, IsUnion, IsBlockOf, TakesBlock, IsFirstPast}
use Rattle.fv_bits.specs.Stored.{AreClearFrom, bit_of_words, is_apart, map_of, IsStored, IsFirst, AreSet, IsFirstAbove, HasNoneAbove, PutsBitOf, Unites, HasBitsOf, PutsBlock}
use Rattle.fv_bits.proofs.Maps.{apart_map, length-map_of, member_of, put_stored, put_map, count_map, count_all, first_map, full_map, found_map, none_map, unite_stored, unite_map, block_map, past_block, block_stored, block_taken, same_union, same_taken}

pub length_seen : (seen : List Bool) (len : ℕ) (ws : List ℕ) → map_of len ws ≡ seen → len ≡ length seen
length_seen seen len ws same = sym (length-map_of len ws) ∙ ap length same

pub member_seen : (seen : List Bool) (len : ℕ) (ws xs : List ℕ) (i : ℕ) (r : Bool) → map_of len ws ≡ seen → IsStored len ws → xs ≡ ws → r ≡ bit_of_words xs i → r ≡ is_member seen i
member_seen seen len ws xs i r same stored read is =
    is ∙ ap (λ l. bit_of_words l i) read ∙ sym (member_of len ws stored i) ∙ ap (λ m. is_member m i) same

pub count_seen : (seen : List Bool) (len : ℕ) (ws xs : List ℕ) (from to r : ℕ) → map_of len ws ≡ seen → IsStored len ws → xs ≡ ws → r ≡ count_by (bit_of_words xs) (range_with_len from (to - from)) → r ≡ count_between seen from to
count_seen seen len ws xs from to r same stored read is =
    is ∙ ap (λ l. count_by (bit_of_words l) (range_with_len from (to - from))) read ∙ count_map len ws stored from to ∙ ap (λ m. count_between m from to) same

pub apart_seen : (mine theirs : List Bool) (len n : ℕ) (ws os xs ys : List ℕ) (from to r : ℕ) → map_of len ws ≡ mine → IsStored len ws → xs ≡ ws → map_of n os ≡ theirs → IsStored n os → ys ≡ os → r ≡ count_by (is_apart xs ys) (range_with_len from (to - from)) → r ≡ apart_between mine theirs from to
apart_seen mine theirs len n ws os xs ys from to r my_view my_words my_read their_view their_words their_read is =
    is ∙ ap₂ (λ l m. count_by (is_apart l m) (range_with_len from (to - from))) my_read their_read
    ∙ apart_map len n ws os my_words their_words from to ∙ ap₂ (λ l m. apart_between l m from to) my_view their_view

pub count_all_seen : (seen : List Bool) (len : ℕ) (ws xs : List ℕ) (r : ℕ) → map_of len ws ≡ seen → IsStored len ws → xs ≡ ws → r ≡ count_by (bit_of_words xs) (range_with_len 0 len) → r ≡ count_of seen
count_all_seen seen len ws xs r same stored read is =
    is ∙ ap (λ l. count_by (bit_of_words l) (range_with_len 0 len)) read ∙ count_all len ws stored ∙ ap count_of same

-- the words that a call reads or writes hold each number below the length
pub within_seen : (seen : List Bool) (len : ℕ) (ws xs : List ℕ) (i : ℕ) → map_of len ws ≡ seen → IsStored len ws → xs ≡ ws → i ≤ length seen → i ≤ 64 * length xs
within_seen seen len ws xs i same stored read inside =
    omega (arith, length_seen seen len ws same, stored.enough, ap length read)

pub put_stored_seen : (seen : List Bool) (len i : ℕ) (v : Bool) (ws xs new kept : List ℕ) → map_of len ws ≡ seen → IsStored len ws → xs ≡ ws → PutsBitOf xs i v new → i < length seen → kept ≡ new → IsStored len kept
put_stored_seen seen len i v ws xs new kept same stored read puts inside keeps =
    let within : i < len = omega (arith, length_seen seen len ws same) in
    subst (IsStored len) (sym keeps) (put_stored len i v ws new stored within (rw read at puts))

pub put_seen : (seen : List Bool) (len i : ℕ) (v : Bool) (ws xs new kept : List ℕ) → map_of len ws ≡ seen → IsStored len ws → xs ≡ ws → PutsBitOf xs i v new → i < length seen → kept ≡ new → map_of len kept ≡ set seen i v
put_seen seen len i v ws xs new kept same stored read puts inside keeps =
    let within : i < len = omega (arith, length_seen seen len ws same) in
    ap (map_of len) keeps ∙ put_map len i v ws new stored within (rw read at puts) ∙ ap (λ m. set m i v) same

pub full_seen : (seen : List Bool) (len : ℕ) (ws xs : List ℕ) (from : ℕ) (r : Option ℕ) → map_of len ws ≡ seen → IsStored len ws → xs ≡ ws → IfNone r (AreSet xs from len) → IfNone r (IsFullFrom seen from)
full_seen seen len ws xs from r same stored read all =
    subst (λ m. IfNone r (IsFullFrom m from)) same (full_map len ws stored from r (subst (λ l. IfNone r (AreSet l from len)) read all))

pub found_seen : (seen : List Bool) (len : ℕ) (ws xs : List ℕ) (from : ℕ) (r : Option ℕ) → map_of len ws ≡ seen → IsStored len ws → xs ≡ ws → IfSome r (IsFirst xs false from) → IfSome r (λ at. at < len) → IfSome r (IsFirstFree seen from)
found_seen seen len ws xs from r same stored read first inside =
    subst (λ m. IfSome r (IsFirstFree m from)) same (found_map len ws stored from r (subst (λ l. IfSome r (IsFirst l false from)) read first) inside)

pub first_seen : (seen : List Bool) (len : ℕ) (ws xs : List ℕ) (from : ℕ) (r : Option ℕ) → map_of len ws ≡ seen → IsStored len ws → xs ≡ ws → IfSome r (IsFirst xs true from) → IfSome r (IsFirstMember seen from)
first_seen seen len ws xs from r same stored read first =
    subst (λ m. IfSome r (IsFirstMember m from)) same (first_map len ws stored from r (subst (λ l. IfSome r (IsFirst l true from)) read first))

pub none_seen : (seen : List Bool) (len : ℕ) (ws xs : List ℕ) (from : ℕ) (r : Option ℕ) → map_of len ws ≡ seen → IsStored len ws → xs ≡ ws → IfNone r (AreClearFrom xs from) → IfNone r (HasNoneFrom seen from)
none_seen seen len ws xs from r same stored read clear =
    subst (λ m. IfNone r (HasNoneFrom m from)) same (none_map len ws stored from r (subst (λ l. IfNone r (AreClearFrom l from)) read clear))

-- two maps with one length have as many words
pub words_seen : (mine theirs : List Bool) (len n : ℕ) (ws os xs ys : List ℕ) → map_of len ws ≡ mine → IsStored len ws → xs ≡ ws → map_of n os ≡ theirs → IsStored n os → ys ≡ os → length theirs ≡ length mine → length ys ≡ length xs
words_seen mine theirs len n ws os xs ys my_view my_words my_read their_view their_words their_read same =
    omega (arith, length_seen mine len ws my_view, length_seen theirs n os their_view, my_words.enough, my_words.few, their_words.enough, their_words.few, ap length my_read, ap length their_read)

lens_seen : (mine theirs : List Bool) (len n : ℕ) (ws os : List ℕ) → map_of len ws ≡ mine → map_of n os ≡ theirs → length theirs ≡ length mine → n ≡ len
lens_seen mine theirs len n ws os my_view their_view same = omega (arith, length_seen mine len ws my_view, length_seen theirs n os their_view)

pub unite_stored_seen : (mine theirs : List Bool) (len n : ℕ) (ws os xs ys new kept : List ℕ) → map_of len ws ≡ mine → IsStored len ws → xs ≡ ws → map_of n os ≡ theirs → IsStored n os → ys ≡ os → Unites xs ys new → length theirs ≡ length mine → kept ≡ new → IsStored len kept
unite_stored_seen mine theirs len n ws os xs ys new kept my_view my_words my_read their_view their_words their_read both same keeps =
    let lens = lens_seen mine theirs len n ws os my_view their_view same in
    subst (IsStored len) (sym keeps) (unite_stored len ws os new my_words (subst (λ m. IsStored m os) lens their_words) (rw (my_read, their_read) at both))

pub unite_seen : (mine theirs : List Bool) (len n : ℕ) (ws os xs ys new kept : List ℕ) → map_of len ws ≡ mine → IsStored len ws → xs ≡ ws → map_of n os ≡ theirs → IsStored n os → ys ≡ os → Unites xs ys new → length theirs ≡ length mine → kept ≡ new → IsUnion (map_of len kept) mine theirs
unite_seen mine theirs len n ws os xs ys new kept my_view my_words my_read their_view their_words their_read both same keeps =
    let lens = lens_seen mine theirs len n ws os my_view their_view same in
    same_union (sym (ap (map_of len) keeps)) my_view (ap (λ m. map_of m os) (sym lens) ∙ their_view) (unite_map len ws os new my_words (subst (λ m. IsStored m os) lens their_words) (rw (my_read, their_read) at both))

pub copy_stored_seen : (mine theirs : List Bool) (len n : ℕ) (ws os ys new kept : List ℕ) → map_of len ws ≡ mine → map_of n os ≡ theirs → IsStored n os → ys ≡ os → new ≡ ys → length theirs ≡ length mine → kept ≡ new → IsStored len kept
copy_stored_seen mine theirs len n ws os ys new kept my_view their_view their_words their_read copied same keeps =
    let lens = lens_seen mine theirs len n ws os my_view their_view same in
    subst (IsStored len) (sym (keeps ∙ copied ∙ their_read)) (subst (λ m. IsStored m os) lens their_words)

pub copy_seen : (mine theirs : List Bool) (len n : ℕ) (ws os ys new kept : List ℕ) → map_of len ws ≡ mine → map_of n os ≡ theirs → ys ≡ os → new ≡ ys → length theirs ≡ length mine → kept ≡ new → map_of len kept ≡ theirs
copy_seen mine theirs len n ws os ys new kept my_view their_view their_read copied same keeps =
    let lens = lens_seen mine theirs len n ws os my_view their_view same in
    ap (map_of len) (keeps ∙ copied ∙ their_read) ∙ ap (λ m. map_of m os) (sym lens) ∙ their_view

pub block_seen : (seen : List Bool) (len : ℕ) (ws xs : List ℕ) (index : ℕ) (block : List ℕ) → map_of len ws ≡ seen → IsStored len ws → xs ≡ ws → HasBitsOf xs (512 * index) block → length block ≡ 4096 → IsBlockOf seen index block
block_seen seen len ws xs index block same stored read bits size =
    subst (λ m. IsBlockOf m index block) same (block_map len ws index block stored size (rw read at bits))

pub past_seen : (seen : List Bool) (len : ℕ) (ws : List ℕ) (index : ℕ) (read block : List ℕ) (at : ℕ) → map_of len ws ≡ seen → HasBitsOf read 0 block → IsFirstAbove read index len at → IsFirstPast (length seen) index block at
past_seen seen len ws index read block at same bits first =
    subst (λ n. IsFirstPast n index block at) (length_seen seen len ws same) (past_block len index read block at bits first)

pub block_stored_seen : (seen : List Bool) (len index : ℕ) (ws xs read new kept : List ℕ) → map_of len ws ≡ seen → IsStored len ws → xs ≡ ws → PutsBlock xs (512 * index) read new → HasNoneAbove read index len → kept ≡ new → IsStored len kept
block_stored_seen seen len index ws xs read new kept same stored was puts none keeps =
    subst (IsStored len) (sym keeps) (block_stored len index ws read new stored (rw was at puts) none)

pub block_taken_seen : (seen : List Bool) (len index : ℕ) (ws xs read new kept block : List ℕ) → map_of len ws ≡ seen → IsStored len ws → xs ≡ ws → PutsBlock xs (512 * index) read new → HasNoneAbove read index len → HasBitsOf read 0 block → kept ≡ new → TakesBlock seen (map_of len kept) index block
block_taken_seen seen len index ws xs read new kept block same stored was puts none bits keeps =
    same_taken same (sym (ap (map_of len) keeps)) (block_taken len index ws read new stored (rw was at puts) none block bits)

pub stored_seen : (len : ℕ) (ws xs : List ℕ) → IsStored len ws → xs ≡ ws → IsStored len xs
stored_seen len ws xs stored read = subst (IsStored len) (sym read) stored
