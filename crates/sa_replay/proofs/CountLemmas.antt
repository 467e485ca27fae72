-- None counts exactly where all pass.
use Rattle.std.proofs.Common.{◌≡◌, ℕ, Bool, true, false, not, cond, eqb, List, refl, ap, ◌∙◌}
use Rattle.std.specs.List.{list_all}
use Rattle.std.proofs.Math.Path.{fun_ext}
use Rattle.std.proofs.lemmas.List.Folds.{sum_by-zero}
use Rattle.sa_laws.specs.declared.place.Place.{Place}
use Rattle.sa_laws.specs.State.{Thread}
use Rattle.sa_laws.specs.Ends.{is_done, is_at_rest}
use Rattle.sa_replay.specs.Counts.{count_in, is_live, is_restless}

pub one_none : (b : Bool) → eqb (cond (not b) 1 0) 0 ≡ b
one_none true = refl
one_none false = refl

count_none : (test : Place → Bool) (threads : List Thread)
    → eqb (count_in (λ place. not (test place)) threads) 0 ≡ list_all (λ (x : Thread). test x.place) threads
count_none test threads =
    sum_by-zero (λ (x : Thread). cond (not (test x.place)) 1 0) threads
    ∙ ap (λ (passes : Thread → Bool). list_all passes threads) (fun_ext (λ (x : Thread). one_none (test x.place)))

pub live_none : (threads : List Thread) (n : ℕ) → n ≡ count_in is_live threads → eqb n 0 ≡ list_all (λ (x : Thread). is_done x.place) threads
live_none threads n counted = ap (λ m. eqb m 0) counted ∙ count_none is_done threads

pub restless_none : (threads : List Thread) (n : ℕ) → n ≡ count_in is_restless threads → eqb n 0 ≡ list_all (λ (x : Thread). is_at_rest x.place) threads
restless_none threads n counted = ap (λ m. eqb m 0) counted ∙ count_none is_at_rest threads
