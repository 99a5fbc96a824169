-- What a machine answers to a command of one volume, by that volume.
use Rattle.std.proofs.Common.{◌≡◌, ℕ, ◌<◌, ◌≤◌, Bool, true, false, cond, not, ◌||◌, nat_lt, nat_le, List, [], ◌∷◌, Option, Some, None, is_some, ap, ◌∙◌, arith}
use Rattle.std.specs.Option.{is_none, option_map_or}
use Rattle.std.specs.FinMap as fin
use Rattle.std.proofs.lemmas.Bool.Decides.{nat_tests}
use Rattle.fv_model.specs.declared.answers.Refusal.{Refusal}
use Rattle.fv_model.specs.declared.answers.Refusal.TheVariants.{NoVolume, NoFile, FileExists, NoSnapshot, Range, TooMany, WrongKind}
use Rattle.fv_model.specs.declared.answers.Reply.TheVariants.{Done, Content, Number, Names}
use Rattle.fv_model.specs.declared.commands.Command.TheVariants.{New, Put, Get, Len, Cut, Remove, Ls}
use Rattle.fv_model.specs.Numbers.{is_index, is_reserve, most_changes, most_files}
use Rattle.fv_model.specs.Tables.{File, Table, file_named}
use Rattle.fv_model.specs.Volumes.{Volume}
use Rattle.fv_model.specs.Machines.{Machine}
use Rattle.fv_model.specs.Space.{is_file_kind}
use Rattle.fv_model.specs.Refusals.{conditions, first_of, refusal, space, table_asked}
use Rattle.fv_model.specs.Replies.{answer, content, file_names}

-- ---- tests

above : (a b : ℕ) → a ≤ b → nat_le a b ≡ true
above a b le = grind (arith, nat_tests)

under : (a b : ℕ) → b < a → nat_le a b ≡ false
under a b lt = grind (arith, nat_tests)

less : (a b : ℕ) → a < b → nat_lt a b ≡ true
less a b lt = grind (arith, nat_tests)

not_less : (a b : ℕ) → b ≤ a → nat_lt a b ≡ false
not_less a b le = grind (arith, nat_tests)

-- the refusal that a test brings, where it holds, and else what comes after it
abbrev first : Bool → Refusal → Option Refusal → Option Refusal
first b r rest = cond b (Some r) rest

comes : {b : Bool} (r : Refusal) (rest : Option Refusal) → b ≡ true → first b r rest ≡ Some r
comes r rest e = ap (λ b. first b r rest) e

passes : {b : Bool} (r : Refusal) (rest : Option Refusal) → b ≡ false → first b r rest ≡ rest
passes r rest e = ap (λ b. first b r rest) e

isnt : {b : Bool} → b ≡ true → not b ≡ false
isnt e = ap not e

is : {b : Bool} → b ≡ false → not b ≡ true
is e = ap not e

-- tests of what is found under a name
abbrev lacks : Option (ℕ × File) → Bool
lacks o = is_none o

abbrev of_found : (File → Bool) → Option (ℕ × File) → Bool
of_found test o = option_map_or (λ (e : ℕ × File). test e.1) o false

-- a test of the table that is asked
abbrev of_asked : (Table → Bool) → Option Table → Bool
of_asked test o = option_map_or test o false

module _ (m : Machine) (v : List ℕ) (x : Volume) (there : fin.get m.volumes v ≡ Some x) where
  abbrev found : List ℕ → Option (ℕ × File)
  found f = file_named x.active f

  -- ---- commands that ask

  get_by : (s : Option (List ℕ)) (f : List ℕ) (i : ℕ) → refusal m (Get v s f i) ≡ first (not (is_index i)) Range (first (is_none (table_asked x s)) NoSnapshot
      (first (of_asked (λ t. lacks (file_named t f)) (table_asked x s)) NoFile (first (of_asked (λ t. of_found (λ file. nat_le file.length i) (file_named t f)) (table_asked x s)) Range None)))
  unfolding conditions
  get_by s f i = λ j. first_of (
      (Range, not (is_index i))
      ∷ (NoVolume, is_none (there j))
      ∷ (NoSnapshot, option_map_or (λ (y : Volume). is_none (table_asked y s)) (there j) false)
      ∷ (NoFile, option_map_or (λ (y : Volume). of_asked (λ t. lacks (file_named t f)) (table_asked y s)) (there j) false)
      ∷ (Range, option_map_or (λ (y : Volume). of_asked (λ t. of_found (λ file. nat_le file.length i) (file_named t f)) (table_asked y s)) (there j) false)
      ∷ [])

  len_by : (s : Option (List ℕ)) (f : List ℕ) → refusal m (Len v s f) ≡ first (is_none (table_asked x s)) NoSnapshot (first (of_asked (λ t. lacks (file_named t f)) (table_asked x s)) NoFile None)
  unfolding conditions
  len_by s f = λ j. first_of (
      (NoVolume, is_none (there j))
      ∷ (NoSnapshot, option_map_or (λ (y : Volume). is_none (table_asked y s)) (there j) false)
      ∷ (NoFile, option_map_or (λ (y : Volume). of_asked (λ t. lacks (file_named t f)) (table_asked y s)) (there j) false)
      ∷ [])

  ls_by : (s : Option (List ℕ)) → refusal m (Ls v s) ≡ first (is_none (table_asked x s)) NoSnapshot None
  unfolding conditions
  ls_by s = λ j. first_of (
      (NoVolume, is_none (there j))
      ∷ (NoSnapshot, option_map_or (λ (y : Volume). is_none (table_asked y s)) (there j) false)
      ∷ [])

  pub get_far : (s : Option (List ℕ)) (f : List ℕ) (i : ℕ) → is_index i ≡ false → refusal m (Get v s f i) ≡ Some Range
  get_far s f i far = get_by s f i ∙ comes _ _ (is far)

  -- a snapshot is asked that isn't there
  module _ (s : Option (List ℕ)) (lost : table_asked x s ≡ None) where
    pub get_lost : (f : List ℕ) (i : ℕ) → is_index i ≡ true → refusal m (Get v s f i) ≡ Some NoSnapshot
    get_lost f i near = get_by s f i ∙ passes _ _ (isnt near) ∙ comes _ _ (ap is_none lost)

    pub len_lost : (f : List ℕ) → refusal m (Len v s f) ≡ Some NoSnapshot
    len_lost f = len_by s f ∙ comes _ _ (ap is_none lost)

    pub ls_lost : refusal m (Ls v s) ≡ Some NoSnapshot
    ls_lost = ls_by s ∙ comes _ _ (ap is_none lost)

  -- a table is asked that is there
  module _ (s : Option (List ℕ)) (t : Table) (asked : table_asked x s ≡ Some t) where
    pub ls_accepted : refusal m (Ls v s) ≡ None
    ls_accepted = ls_by s ∙ passes _ _ (ap is_none asked)

    pub ls_answer : answer m (Ls v s) ≡ Names (file_names t)
    unfolding answer
    ls_answer =
        ap (λ (o : Option Volume). option_map_or (λ (y : Volume). option_map_or (λ (t : Table). Names (file_names t)) (table_asked y s) Done) o Done) there
        ∙ ap (λ (o : Option Table). option_map_or (λ (t : Table). Names (file_names t)) o Done) asked

    module _ (f : List ℕ) where
      get_asked : (i : ℕ) → is_index i ≡ true → refusal m (Get v s f i) ≡ first (lacks (file_named t f)) NoFile (first (of_found (λ file. nat_le file.length i) (file_named t f)) Range None)
      get_asked i near = get_by s f i ∙ passes _ _ (isnt near) ∙ passes _ _ (ap is_none asked)
          ∙ ap (λ (o : Option Table). first (of_asked (λ t. lacks (file_named t f)) o) NoFile (first (of_asked (λ t. of_found (λ file. nat_le file.length i) (file_named t f)) o) Range None)) asked

      len_asked : refusal m (Len v s f) ≡ first (lacks (file_named t f)) NoFile None
      len_asked = len_by s f ∙ passes _ _ (ap is_none asked) ∙ ap (λ (o : Option Table). first (of_asked (λ t. lacks (file_named t f)) o) NoFile None) asked

      pub get_none : (i : ℕ) → is_index i ≡ true → file_named t f ≡ None → refusal m (Get v s f i) ≡ Some NoFile
      get_none i near none = get_asked i near ∙ comes _ _ (ap lacks none)

      pub len_none : file_named t f ≡ None → refusal m (Len v s f) ≡ Some NoFile
      len_none none = len_asked ∙ comes _ _ (ap lacks none)

      module _ (n : ℕ) (file : File) (named : file_named t f ≡ Some (n, file)) where
        get_named : (i : ℕ) → is_index i ≡ true → refusal m (Get v s f i) ≡ first (nat_le file.length i) Range None
        get_named i near = get_asked i near ∙ passes _ _ (ap lacks named) ∙ ap (λ (o : Option (ℕ × File)). first (of_found (λ file. nat_le file.length i) o) Range None) named

        pub get_past : (i : ℕ) → is_index i ≡ true → file.length ≤ i → refusal m (Get v s f i) ≡ Some Range
        get_past i near past = get_named i near ∙ comes _ _ (above file.length i past)

        pub get_accepted : (i : ℕ) → is_index i ≡ true → i < file.length → refusal m (Get v s f i) ≡ None
        get_accepted i near within = get_named i near ∙ passes _ _ (under file.length i within)

        pub get_answer : (i : ℕ) → answer m (Get v s f i) ≡ Content (content file i)
        unfolding answer
        get_answer i =
            ap (λ (o : Option Volume). option_map_or (λ (y : Volume). option_map_or (λ (t : Table). option_map_or (λ (e : ℕ × File). Content (content e.1 i)) (file_named t f) Done) (table_asked y s) Done) o Done) there
            ∙ ap (λ (o : Option Table). option_map_or (λ (t : Table). option_map_or (λ (e : ℕ × File). Content (content e.1 i)) (file_named t f) Done) o Done) asked
            ∙ ap (λ (o : Option (ℕ × File)). option_map_or (λ (e : ℕ × File). Content (content e.1 i)) o Done) named

        pub len_accepted : refusal m (Len v s f) ≡ None
        len_accepted = len_asked ∙ passes _ _ (ap lacks named)

        pub len_answer : answer m (Len v s f) ≡ Number file.length
        unfolding answer
        len_answer =
            ap (λ (o : Option Volume). option_map_or (λ (y : Volume). option_map_or (λ (t : Table). option_map_or (λ (e : ℕ × File). Number e.1.length) (file_named t f) Done) (table_asked y s) Done) o Done) there
            ∙ ap (λ (o : Option Table). option_map_or (λ (t : Table). option_map_or (λ (e : ℕ × File). Number e.1.length) (file_named t f) Done) o Done) asked
            ∙ ap (λ (o : Option (ℕ × File)). option_map_or (λ (e : ℕ × File). Number e.1.length) o Done) named

  -- ---- commands that change

  put_by : (f : List ℕ) (i : ℕ) (block : List ℕ) → refusal m (Put v f i block) ≡ first (not (is_index i)) Range (first (lacks (found f)) NoFile (first (nat_le most_changes x.now) TooMany (first_of (space m (Put v f i block) v))))
  unfolding conditions
  put_by f i block = λ j. first_of (
      (Range, not (is_index i))
      ∷ (NoVolume, is_none (there j))
      ∷ (NoFile, option_map_or (λ (y : Volume). lacks (file_named y.active f)) (there j) false)
      ∷ (TooMany, option_map_or (λ (y : Volume). nat_le most_changes y.now) (there j) false)
      ∷ space m (Put v f i block) v)

  cut_by : (f : List ℕ) (most : ℕ) → refusal m (Cut v f most) ≡ first (not (is_reserve most)) Range (first (lacks (found f)) NoFile
      (first (of_found (λ file. nat_lt file.length most) (found f)) Range (first (nat_le most_changes x.now) TooMany (first_of (space m (Cut v f most) v)))))
  unfolding conditions
  cut_by f most = λ j. first_of (
      (Range, not (is_reserve most))
      ∷ (NoVolume, is_none (there j))
      ∷ (NoFile, option_map_or (λ (y : Volume). lacks (file_named y.active f)) (there j) false)
      ∷ (Range, option_map_or (λ (y : Volume). of_found (λ file. nat_lt file.length most) (file_named y.active f)) (there j) false)
      ∷ (TooMany, option_map_or (λ (y : Volume). nat_le most_changes y.now) (there j) false)
      ∷ space m (Cut v f most) v)

  rm_by : (f : List ℕ) → refusal m (Remove v f) ≡ first (lacks (found f)) NoFile (first (nat_le most_changes x.now) TooMany (first_of (space m (Remove v f) v)))
  unfolding conditions
  rm_by f = λ j. first_of (
      (NoVolume, is_none (there j))
      ∷ (NoFile, option_map_or (λ (y : Volume). lacks (file_named y.active f)) (there j) false)
      ∷ (TooMany, option_map_or (λ (y : Volume). nat_le most_changes y.now) (there j) false)
      ∷ space m (Remove v f) v)

  new_by : (f : List ℕ) (reserve : ℕ) → refusal m (New v f reserve) ≡ first (not (is_reserve reserve)) Range (first (is_some (found f)) FileExists
      (first (cond (nat_lt 0 reserve) (not (is_file_kind x.kind)) false) WrongKind (first (nat_le most_files (fin.len x.active.files) || nat_le most_changes x.now) TooMany (first_of (space m (New v f reserve) v)))))
  unfolding conditions
  new_by f reserve = λ j. first_of (
      (Range, not (is_reserve reserve))
      ∷ (NoVolume, is_none (there j))
      ∷ (FileExists, option_map_or (λ (y : Volume). is_some (file_named y.active f)) (there j) false)
      ∷ (WrongKind, option_map_or (λ (y : Volume). cond (nat_lt 0 reserve) (not (is_file_kind y.kind)) false) (there j) false)
      ∷ (TooMany, option_map_or (λ (y : Volume). nat_le most_files (fin.len y.active.files)) (there j) false || option_map_or (λ (y : Volume). nat_le most_changes y.now) (there j) false)
      ∷ space m (New v f reserve) v)

  module _ (f : List ℕ) where
    pub put_far : (i : ℕ) (block : List ℕ) → is_index i ≡ false → refusal m (Put v f i block) ≡ Some Range
    put_far i block far = put_by f i block ∙ comes _ _ (is far)

    pub cut_far : (most : ℕ) → is_reserve most ≡ false → refusal m (Cut v f most) ≡ Some Range
    cut_far most far = cut_by f most ∙ comes _ _ (is far)

    pub new_far : (reserve : ℕ) → is_reserve reserve ≡ false → refusal m (New v f reserve) ≡ Some Range
    new_far reserve far = new_by f reserve ∙ comes _ _ (is far)

    pub put_none : (i : ℕ) (block : List ℕ) → is_index i ≡ true → found f ≡ None → refusal m (Put v f i block) ≡ Some NoFile
    put_none i block near none = put_by f i block ∙ passes _ _ (isnt near) ∙ comes _ _ (ap lacks none)

    pub cut_none : (most : ℕ) → is_reserve most ≡ true → found f ≡ None → refusal m (Cut v f most) ≡ Some NoFile
    cut_none most near none = cut_by f most ∙ passes _ _ (isnt near) ∙ comes _ _ (ap lacks none)

    pub rm_none : found f ≡ None → refusal m (Remove v f) ≡ Some NoFile
    rm_none none = rm_by f ∙ comes _ _ (ap lacks none)

    module _ (reserve : ℕ) (near : is_reserve reserve ≡ true) where
      pub new_taken : (e : ℕ × File) → found f ≡ Some e → refusal m (New v f reserve) ≡ Some FileExists
      new_taken e named = new_by f reserve ∙ passes _ _ (isnt near) ∙ comes _ _ (ap is_some named)

      module _ (none : found f ≡ None) where
        new_free : refusal m (New v f reserve) ≡ first (cond (nat_lt 0 reserve) (not (is_file_kind x.kind)) false) WrongKind
            (first (nat_le most_files (fin.len x.active.files) || nat_le most_changes x.now) TooMany (first_of (space m (New v f reserve) v)))
        new_free = new_by f reserve ∙ passes _ _ (isnt near) ∙ passes _ _ (ap is_some none)

        pub new_kind : 0 < reserve → is_file_kind x.kind ≡ false → refusal m (New v f reserve) ≡ Some WrongKind
        new_kind some other = new_free ∙ comes _ _ (ap (λ b. cond b (not (is_file_kind x.kind)) false) (less 0 reserve some) ∙ is other)

        module _ (fits : cond (nat_lt 0 reserve) (not (is_file_kind x.kind)) false ≡ false) where
          pub new_files : most_files ≤ fin.len x.active.files → refusal m (New v f reserve) ≡ Some TooMany
          new_files all = new_free ∙ passes _ _ fits ∙ comes _ _ (ap (λ b. b || nat_le most_changes x.now) (above most_files (fin.len x.active.files) all))

          pub new_changes : fin.len x.active.files < most_files → most_changes ≤ x.now → refusal m (New v f reserve) ≡ Some TooMany
          new_changes few all = new_free ∙ passes _ _ fits
              ∙ comes _ _ (ap (λ b. b || nat_le most_changes x.now) (under most_files (fin.len x.active.files) few) ∙ above most_changes x.now all)

          pub new_space : fin.len x.active.files < most_files → x.now < most_changes → refusal m (New v f reserve) ≡ first_of (space m (New v f reserve) v)
          new_space few more = new_free ∙ passes _ _ fits
              ∙ passes _ _ (ap (λ b. b || nat_le most_changes x.now) (under most_files (fin.len x.active.files) few) ∙ under most_changes x.now more)

    module _ (n : ℕ) (file : File) (named : found f ≡ Some (n, file)) where
      pub put_changes : (i : ℕ) (block : List ℕ) → is_index i ≡ true → most_changes ≤ x.now → refusal m (Put v f i block) ≡ Some TooMany
      put_changes i block near all = put_by f i block ∙ passes _ _ (isnt near) ∙ passes _ _ (ap lacks named) ∙ comes _ _ (above most_changes x.now all)

      pub put_space : (i : ℕ) (block : List ℕ) → is_index i ≡ true → x.now < most_changes → refusal m (Put v f i block) ≡ first_of (space m (Put v f i block) v)
      put_space i block near more = put_by f i block ∙ passes _ _ (isnt near) ∙ passes _ _ (ap lacks named) ∙ passes _ _ (under most_changes x.now more)

      cut_named : (most : ℕ) → is_reserve most ≡ true → refusal m (Cut v f most) ≡ first (nat_lt file.length most) Range (first (nat_le most_changes x.now) TooMany (first_of (space m (Cut v f most) v)))
      cut_named most near = cut_by f most ∙ passes _ _ (isnt near) ∙ passes _ _ (ap lacks named)
          ∙ ap (λ (o : Option (ℕ × File)). first (of_found (λ file. nat_lt file.length most) o) Range (first (nat_le most_changes x.now) TooMany (first_of (space m (Cut v f most) v)))) named

      pub cut_past : (most : ℕ) → is_reserve most ≡ true → file.length < most → refusal m (Cut v f most) ≡ Some Range
      cut_past most near past = cut_named most near ∙ comes _ _ (less file.length most past)

      pub cut_changes : (most : ℕ) → is_reserve most ≡ true → most ≤ file.length → most_changes ≤ x.now → refusal m (Cut v f most) ≡ Some TooMany
      cut_changes most near within all = cut_named most near ∙ passes _ _ (not_less file.length most within) ∙ comes _ _ (above most_changes x.now all)

      pub cut_space : (most : ℕ) → is_reserve most ≡ true → most ≤ file.length → x.now < most_changes → refusal m (Cut v f most) ≡ first_of (space m (Cut v f most) v)
      cut_space most near within more = cut_named most near ∙ passes _ _ (not_less file.length most within) ∙ passes _ _ (under most_changes x.now more)

      pub rm_changes : most_changes ≤ x.now → refusal m (Remove v f) ≡ Some TooMany
      rm_changes all = rm_by f ∙ passes _ _ (ap lacks named) ∙ comes _ _ (above most_changes x.now all)

      pub rm_space : x.now < most_changes → refusal m (Remove v f) ≡ first_of (space m (Remove v f) v)
      rm_space more = rm_by f ∙ passes _ _ (ap lacks named) ∙ passes _ _ (under most_changes x.now more)
