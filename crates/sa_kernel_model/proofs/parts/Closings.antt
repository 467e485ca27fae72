-- The closing, space by space.
use Rattle.std.proofs.Common.{◌≡◌, ℕ, zero, suc, ◌+◌, ◌-◌, ◌<◌, Option, List, [], ◌∷◌, ◌++◌, length, refl, sym, ap, subst, ◌∙◌, arith, append_assoc}
use Rattle.std.proofs.lemmas.List.{length-set}
use Rattle.sa_base.specs.declared.number.ProcNo.{ProcNo}
use Rattle.sa_base.specs.declared.number.SpaceNo.{SpaceNo}
use Rattle.sa_base.specs.declared.record.Item.{Item}
use Rattle.sa_base.specs.declared.record.Record.TheVariants.{Want}
use Rattle.sa_base.specs.Items.{items_at}
use Rattle.sa_share.specs.declared.Claim.{Claim}
use Rattle.sa_share.specs.Share.{IsFirst}
use Rattle.sa_share.specs.Rounds.{shares_of}
use Rattle.sa_assign.specs.AssignView.{AssignView}
use Rattle.sa_assign.specs.Aims.{Change, space_no, aims_with, aims_after}
use Rattle.sa_assign.specs.Reaim.{proc_no, lines_with, lines_after, changes_in, reaimed, reaim_records}
use Rattle.sa_kernel_model.specs.Sound.{HasSizes}
use Rattle.sa_kernel_model.proofs.parts.Sizes.{sizes_of, sizes-kept}
use Rattle.sa_kernel_model.specs.Opening.{first_wants}
use Rattle.sa_kernel_model.specs.State.{KernelState, Scene}
use Rattle.sa_kernel_model.specs.Closing.{for_spaces, claims_from, claim_of, claims, spaces, first_space, aims}

-- one space more has said what it wants
pub one-said : (s n : ℕ) (items after : List Item) → s < n → after ≡ items ++ record { event = 0; proc = proc_no 0; what = Want (space_no s) 1 } ∷ []
    → after ++ items_at 0 (proc_no 0) (first_wants (s + 1) (n - (s + 1))) ≡ items ++ items_at 0 (proc_no 0) (first_wants s (n - s))
one-said s n items after below is =
    let e : suc (n - (s + 1)) ≡ n - s = omega arith in
    ap (λ xs. xs ++ items_at 0 (proc_no 0) (first_wants (s + 1) (n - (s + 1)))) is
    ∙ append_assoc items (record { event = 0; proc = proc_no 0; what = Want (space_no s) 1 } ∷ []) (items_at 0 (proc_no 0) (first_wants (s + 1) (n - (s + 1))))
    ∙ ap (λ k. items ++ items_at 0 (proc_no 0) (first_wants s k)) e

pub length-aims_after : (aims : List (Option SpaceNo)) (cs : List Change) → length (aims_after aims cs) ≡ length aims
length-aims_after aims [] = refl
length-aims_after aims (c ∷ cs) = length-aims_after (aims_with aims c) cs ∙ length-set aims c.proc _

pub length-lines_after : (event : ℕ) (lines : List (Option ℕ)) (cs : List Change) → length (lines_after event lines cs) ≡ length lines
length-lines_after event lines [] = refl
length-lines_after event lines (c ∷ cs) = length-lines_after event (lines_with event lines c) cs ∙ length-set lines c.proc _

module _ {C : Type 0} where
  -- one space more was served
  pub one-served : (f : ℕ → Scene C → Scene C) (s n : ℕ) (x y : Scene C) → s < n → y ≡ f s x → for_spaces f (s + 1) (n - (s + 1)) y ≡ for_spaces f s (n - s) x
  one-served f s n x y below is =
      let e : suc (n - (s + 1)) ≡ n - s = omega arith in
      ap (λ (z : Scene C). for_spaces f (s + 1) (n - (s + 1)) z) is ∙ ap (λ k. for_spaces f s k x) e

  -- one space more has claimed
  pub one-claimed : (k : KernelState C) (s n : ℕ) (before : List Claim) (c : Claim) → s < n → c ≡ claim_of k s
      → (before ++ c ∷ []) ++ claims_from k (s + 1) (n - (s + 1)) ≡ before ++ claims_from k s (n - s)
  one-claimed k s n before c below is =
      let e : suc (n - (s + 1)) ≡ n - s = omega arith in
      append_assoc before (c ∷ []) (claims_from k (s + 1) (n - (s + 1)))
      ∙ ap (λ d. before ++ d ∷ claims_from k (s + 1) (n - (s + 1))) is
      ∙ ap (λ i. before ++ claims_from k s i) e

  length-claims_from : (k : KernelState C) (s n : ℕ) → length (claims_from k s n) ≡ n
  length-claims_from k s zero = refl
  length-claims_from k s (suc n) = ap suc (length-claims_from k (s + 1) n)

  pub length-claims : (k : KernelState C) → length (claims k) ≡ spaces k
  length-claims k = length-claims_from k 0 (spaces k)

  pub first-fits : (k : KernelState C) (first : ℕ) (cs : List Claim) → cs ≡ claims k → first < length k.demands → IsFirst first cs
  first-fits k first cs is below =
      let e : length cs ≡ length k.demands = ap (λ (xs : List Claim). length xs) is ∙ length-claims k in
      let f : first < length cs = omega arith in
      omega arith

  pub aims-is : (e : ℕ) (p : ProcNo) (old : Scene C) (a : AssignView) (items : List Item) (cs : List Claim) (first : ℕ)
      → cs ≡ claims old.state → first ≡ first_space old.state e
      → a ≡ reaimed e (length cs) (shares_of (length old.state.assign.owners) first cs) old.state.assign
      → items ≡ old.items ++ items_at e p (reaim_records e (length cs) (shares_of (length old.state.assign.owners) first cs) old.state.assign)
      → record old { state = record old.state { assign = a }; items = items } ≡ aims e p old
  aims-is e p old a items cs first claimed is assign says =
      let n = length old.state.assign.owners in
      let F : List Claim → ℕ → ℕ → Scene C = λ xs m f. record {
        state = record old.state { assign = reaimed e m (shares_of n f xs) old.state.assign };
        items = old.items ++ items_at e p (reaim_records e m (shares_of n f xs) old.state.assign);
      } in
      let made : record old { state = record old.state { assign = a }; items = items } ≡ F cs (length cs) first =
      λ i. record old { state = record old.state { assign = assign i }; items = says i } in
      made
      ∙ ap (λ (xs : List Claim). F xs (length xs) first) claimed
      ∙ ap (λ m. F (claims old.state) m first) (length-claims old.state)
      ∙ ap (λ f. F (claims old.state) (spaces old.state) f) is

  pub sizes-aims : (k : KernelState C) (e n : ℕ) (shares : List ℕ) (a : AssignView) → HasSizes k → a ≡ reaimed e n shares k.assign
      → HasSizes (record k { assign = a })
  sizes-aims k e n shares a sizes is =
      let cs = changes_in n shares k.assign in
      subst (λ (b : AssignView). HasSizes (record k { assign = b })) (sym is) (sizes-kept k _ (λ i. record (sizes_of k) {
        aims = length-aims_after k.assign.aims cs i;
        lines = length-lines_after e k.assign.lines cs i;
      }) sizes)
