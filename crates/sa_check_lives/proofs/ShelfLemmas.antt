-- What a change of one shelf does to the lives.
use Rattle.std.proofs.Common.{◌≡◌, ◌≢◌, ℕ, ◌<◌, length, List, [], sym, ◌∙◌, ap, inl, inr, Option, None, zero, suc, replicate, refl}
use Rattle.std.specs.Prelude.{slice_index_or, slice_set}
use Rattle.std.proofs.Math.Path.{fun_ext}
use Rattle.std.proofs.lemmas.Bool.{cases_eq}
use Rattle.std.proofs.lemmas.List.{get_or-set_other, get_or_default}
use Rattle.std.proofs.lemmas.Grind.{get_or-set_at}
use Rattle.sa_lemmas.specs.Function.{put}
use Rattle.sa_lemmas.proofs.FunctionUpdates.{put-at, put-other}
use Rattle.sa_laws.specs.Life.{Life}
use Rattle.sa_check_lives.specs.Table.{lives_among, lives_in, shelf_of}

-- shelves with nothing on them
past-all : (n i : ℕ) → slice_index_or {A = List (ℕ × Life)} (replicate n []) i [] ≡ []
past-all zero i = refl
past-all (suc n) zero = refl
past-all (suc n) (suc i) = past-all n i

pub empty-shelves : (n : ℕ) → lives_in (replicate n []) ≡ (λ a. None)
empty-shelves n = fun_ext (λ q. ap (λ shelf. lives_among shelf q) (past-all n (shelf_of q)))

module _ (shelves now : List (List (ℕ × Life))) (view : shelves ≡ now) (i : ℕ) (before after : List (ℕ × Life)) (within : i < length shelves)
    (was : before ≡ slice_index_or shelves i before) where
  -- a life on the shelf, before and after
  here-before : (q : ℕ) → shelf_of q ≡ i → lives_in shelves q ≡ lives_among before q
  here-before q on =
      ap (λ k. lives_among (slice_index_or shelves k []) q) on
      ∙ ap (λ shelf. lives_among shelf q) (get_or_default shelves i [] before within ∙ sym was)

  pub here-after : (q : ℕ) → shelf_of q ≡ i → lives_in (slice_set shelves i after) q ≡ lives_among after q
  here-after q on = ap (λ shelf. lives_among shelf q) (get_or-set_at shelves i (shelf_of q) after [] on within)

  -- a life elsewhere
  elsewhere : (q : ℕ) → shelf_of q ≢ i → lives_in (slice_set shelves i after) q ≡ lives_in shelves q
  elsewhere q off = ap (λ shelf. lives_among shelf q) (get_or-set_other shelves i (shelf_of q) after [] off)

  -- the shelf changes at one number
  pub shelf-put : (a : ℕ) (w : Option Life → Option Life) → i ≡ shelf_of a
      → lives_among after ≡ put (lives_among before) a (w (lives_among before a))
      → lives_in (slice_set shelves i after) ≡ put (lives_in now) a (w (lives_in now a))
  shelf-put a w at is =
      fun_ext (λ q. elim (cases_eq q a) [
        | inl same ↦
            let on : shelf_of q ≡ i = ap shelf_of same ∙ sym at in
            here-after q on ∙ ap (λ f. f q) is ∙ put-at (lives_among before) a q (w (lives_among before a)) same
            ∙ ap w (sym (here-before a (sym at)))
            ∙ sym (put-at (lives_in shelves) a q (w (lives_in shelves a)) same)
        | inr apart ↦
            elim (cases_eq (shelf_of q) i) [
              | inl on ↦
                  here-after q on ∙ ap (λ f. f q) is ∙ put-other (lives_among before) a q (w (lives_among before a)) apart ∙ sym (here-before q on)
              | inr off ↦ elsewhere q off
            ]
            ∙ sym (put-other (lives_in shelves) a q (w (lives_in shelves a)) apart)
      ])
      ∙ ap (λ xs. put (lives_in xs) a (w (lives_in xs a))) view

  -- where the shelf keeps its lives, all lives are kept
  pub shelf-kept : lives_among after ≡ lives_among before → lives_in (slice_set shelves i after) ≡ lives_in now
  shelf-kept is = fun_ext (λ q. elim (cases_eq (shelf_of q) i) [
    | inl on ↦ here-after q on ∙ ap (λ f. f q) is ∙ sym (here-before q on)
    | inr off ↦ elsewhere q off
  ])
      ∙ ap lives_in view
