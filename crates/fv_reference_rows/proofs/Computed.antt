-- Worked rows that the checker computes from the definitions alone.
use Rattle.std.specs.Prelude.{◌≡◌, ◌++◌, ◌∷◌, [], true, codes}
use Rattle.std.specs.Fmt.{digits}
use Rattle.std.proofs.Common.{refl}
use Rattle.fv_model.specs.declared.commands.Kind.TheVariants.{Volume as Whole}
use Rattle.fv_model.specs.declared.answers.Refusal.TheVariants.{VolumeFull, WrongKind}
use Rattle.fv_model.specs.declared.answers.Reply.TheVariants.{Names, Stat, Refused}
use Rattle.fv_model.specs.Machines.{capacity}
use Rattle.fv_model.specs.Space.{overhead, nodes_above, span_of}
use Rattle.fv_model.specs.Texts.{text, words}

capacity_of_1024 : capacity 1024 ≡ 761
capacity_of_1024 = refl

capacity_of_the_least : capacity 512 ≡ 249
capacity_of_the_least = refl

capacity_of_the_greatest : capacity 1048576 ≡ 1048251
capacity_of_the_greatest = refl

span_of_100 : span_of 100 0 0 ≡ 4096
span_of_100 = refl

span_of_2000 : span_of 2000 0 0 ≡ 8192
span_of_2000 = refl

overhead_of_4096 : overhead 4096 ≡ 20
unfolding overhead nodes_above
overhead_of_4096 = refl

overhead_of_8192 : overhead 8192 ≡ 36
unfolding overhead nodes_above
overhead_of_8192 = refl

full_volume : text (Refused VolumeFull) ≡ codes "err 8 volume full" ++ 10 ∷ []
unfolding words digits
full_volume = refl

wrong_kind : text (Refused WrongKind) ≡ codes "err 16 kind doesn't fit" ++ 10 ∷ []
unfolding words digits
wrong_kind = refl

no_names : text (Names []) ≡ codes "-" ++ 10 ∷ []
unfolding words
no_names = refl

two_names : text (Names (codes "f" ∷ codes "g" ∷ [])) ≡ codes "f g" ++ 10 ∷ []
unfolding words
two_names = refl

numbers_of_a_volume : text (Stat (record { size = 100; used = 2; need = 0; commit = 140; kind = Whole; clean = true }))
    ≡ codes "size 100 used 2 need 0 commit 140 kind volume clean yes" ++ 10 ∷ []
unfolding words digits
numbers_of_a_volume = refl
