-- What the walks of the three functions share.
--     word_had, word_made      a slot, which is one pointer
--     tells      what is owned of a value is one machine value
--     one_out, one_in, one_seen      a value is taken out of the block, put back, or seen
--     some_of      a value of the block, where it has one
--     quotient      how far a value lies from the block's begin, in values
--     needs_three      three facts that are asked for
use mathlib.Core.Path.{◌≡◌, refl, sym, subst, ◌∙◌}
use Prim.Native.Nat.{ℕ, zero, suc, ◌+◌, ◌-◌, ◌*◌, ◌/◌, ◌≤◌, ◌<◌, ◌^◌}
use native.Mathlib.Nat.{le_of_suc-le-suc, not-suc-le-zero}
use native.Mathlib.Omega.{arith}
use mathlib.Core.List.{List, [], ◌∷◌, ◌++◌}
use lib.ListN.{length, get_or, set, length-set}
use seplogic.Ra.Ura.{Ura}
use base.Fraction.{full_share}
use mir.Syntax.{Ty}
use mir.Val.{Val, vstruct, of_list}
use base.Logic.{SProp, ent, sep, via, fst∗, snd∗}
use base.Fml.{Fml, Lft}
use types.Logic.{Logic, sem}
use contract.Monad.{fact, fact_i, fact_use}
use types.Kit.{Item, Goal, Seq, Step, step, ‵, ◌⊛◌, given, ◌$◌, ◌∵◌, !, qed, by, drop, use1, use2, split, learn, fsplit, fjoin, fpick, fpack, feq_i, feq_l, rewrite, done}
use denote.RattleType.{RattleType, Valss}
use denote.Laws.{Typed, Is, shows}
use denote.Memory.{part_at, shares, shared_of, mem}
use denote.Slice.{elements_shared}
use denote.Param.{param, layout}
use denote.Param.Laws.{Laws, param_laws}
use denote.Array.{Array}
use denote.Index.{place_is, others, takes, puts, row, place as nth}
use denote.RawPtr.{Ptr, RawPtr, ptr_val}
use denote.Steps.{nothing, peeks}
use denote.Struct.Struct.{Shape, Struct, within}
use Rattle.std.proofs.Math.Nat.{mul-div_cancel}
use Rattle.std.proofs.RcSteps.{Good, word}
use Rattle.std.proofs.VecSteps.El.{El, el_x, R, sz}
use Rattle.std.proofs.VecSteps.Rows.{apart, whole}
use Rattle.sa_links.specs.contracts.block.Slot as Slot-type

abbrev one_field : Shape
one_field = record { name = []; args = []; types = []; fields = RawPtr ∷ [] }

abbrev pub Word : RattleType
Word = Struct one_field

module _ {M : Type 1} {𝓤 : Ura M} {𝓛 : Logic 𝓤} {K : Type 0} {Γ : List (Item 𝓤)} {G : Goal 𝓤 𝓛.H} where
  pub word_had : K → (c : Ptr) (vs : List Val) → (vs ≡ word c ∷ [] → Seq K 𝓛 Γ G) → Seq K 𝓛 (‵ (Word.own_val (c, tt) vs) ∷ Γ) G
  word_had t c vs k =
      fpick t (λ vss. fsplit t $ feq_l t (λ ev. fsplit t $ feq_l t (λ e. drop t $ k (subst (λ (ws : List Val). vs ≡ vstruct (of_list (ws ++ [])) ∷ []) e ev))))

  pub word_made : K → (c : Ptr) → Step K 𝓛 (‵ (Word.own_val (c, tt) (word c ∷ [])) ∷ Γ) G Γ G
  word_made t c = step (λ s.
      nothing t $ feq_i t (List Val) (ptr_val c ∷ []) (ptr_val c ∷ []) refl $ fjoin t $ feq_i t (List Val) (word c ∷ []) (word c ∷ []) refl $ fjoin t $
      fpack t (Valss (RawPtr ∷ [])) (within one_field (c, tt) (word c ∷ [])) (ptr_val c ∷ [], tt) $ s)

alone : (τ : Ty) (vs : List Val) → Typed (τ ∷ []) vs → (v : Val) × ((vs ≡ v ∷ []) × Good τ v)
alone τ [] t = absurd t
alone τ (v ∷ []) t = (v, (refl, t.0))
alone τ (v ∷ w ∷ vs) t = absurd t.1

module _ (Y : RattleType) (L : Laws Y) {M : Type 1} {𝓤 : Ura M} {𝓛 : Logic 𝓤} {K : Type 0} {Γ : List (Item 𝓤)} {G : Goal 𝓤 𝓛.H} where
  pub tells : K → (x : Y.Denot) (vs : List Val) → ((v : Val) → vs ≡ v ∷ [] → Good (layout Y) v → Seq K 𝓛 (‵ (Y.own_val x (v ∷ [])) ∷ Γ) G)
      → Seq K 𝓛 (‵ (Y.own_val x vs) ∷ Γ) G
  tells t x vs k =
      peeks t (param 0 Y) (Is (param 0 Y)) (shows 𝓛 (param 0 Y)) x vs (λ is.
      let one = alone (layout Y) vs (((param_laws 0 Y L).lawful 𝓛).typed x vs is) in
      rewrite t 0 (λ (us : List Val). ‵ (Y.own_val x us)) one.1.0 refl $ k one.0 one.1.0 one.1.1)

module _ (E : El) where
  -- the row of a slot
  abbrev pub Pl : RattleType
  Pl = Slot-type.the_row (R E)

  module _ {M : Type 1} {𝓤 : Ura M} (𝓛 : Logic 𝓤) (n : ℕ) (xs : List (el_x E)) (i : ℕ) (b o : ℕ) where
    abbrev all : List (el_x E) → SProp 𝓤
    all ys = sem 𝓛 (part_at (Array (R E) n) full_share ys b o)

    abbrev one : el_x E → SProp 𝓤
    one y = sem 𝓛 (part_at (R E) full_share y b (i * sz E + o))

    -- the values beside the one at i
    abbrev pub Beside : Fml
    Beside = others (shares (R E)) full_share xs i b o

    pub one_out : (d : el_x E) → i < length xs → ent 𝓤 (all xs) (sep 𝓤 (one (get_or xs i d)) (sem 𝓛 Beside))
    one_out d inside = qed 𝓛 (‵ (part_at (Array (R E) n) full_share xs b o) ∷ []) ∵
        use1 𝓛 (given (length xs ≡ n) (‵ (row (R E) full_share xs b o))) (apart E 𝓛 full_share n xs b o) $ learn ! (λ _.
        use1 𝓛 (‵ (part_at (R E) full_share (get_or xs i d) b (nth (sz E) o i)) ⊛ ‵ Beside) (takes (shares (R E)) full_share 𝓛 xs i d b o inside) $ split ! $
        rewrite ! 0 (λ (k : ℕ). ‵ (part_at (R E) full_share (get_or xs i d) b k)) (place_is (sz E) o i) refl $ done !)

    pub one_in : (y : el_x E) → i < length xs → length xs ≡ n → ent 𝓤 (sep 𝓤 (one y) (sem 𝓛 Beside)) (all (set xs i y))
    one_in y inside l = qed 𝓛 (‵ (part_at (R E) full_share y b (i * sz E + o)) ∷ ‵ Beside ∷ []) ∵
        rewrite ! 0 (λ (k : ℕ). ‵ (part_at (R E) full_share y b k)) (sym (place_is (sz E) o i)) refl $
        use2 𝓛 (‵ (row (R E) full_share (set xs i y) b o)) (puts (shares (R E)) full_share 𝓛 xs i y b o inside) $ by !
        (whole E 𝓛 full_share n (set xs i y) b o (length-set xs i y ∙ l))

pub some_of : {X : Type 0} (xs : List X) (i : ℕ) → i < length xs → X
some_of [] i h = absurd (not-suc-le-zero h)
some_of (x ∷ xs) i h = x

pub quotient : (i s o : ℕ) → 0 < s → (i * s + o - o) / s ≡ i
quotient i s o pos = let e : i * s + o - o ≡ i * s = omega arith in rw e (mul-div_cancel i pos)

pub fits_here : (c s i : ℕ) → i < c → c * s < 2 ^ 63 → (s < 2 ^ 64) × (i * s < 2 ^ 64)
fits_here c s i within fit =
    let one : s ≤ c * s = grind arith in
    let few : i * s ≤ c * s = grind arith in
    (omega arith, omega arith)

next_slot : (i s o : ℕ) → i * s + (o + s) ≡ suc i * s + o
next_slot i s o = omega arith

module _ {M : Type 1} {𝓤 : Ura M} (𝓛 : Logic 𝓤) (R : RattleType) (b : ℕ) (κ : Lft) where
  abbrev s : ℕ
  s = (mem R).size

  pub one_seen : (xs : List R.Denot) (i : ℕ) (d : R.Denot) (o : ℕ) → i < length xs
      → ent 𝓤 (sem 𝓛 (elements_shared R xs b o κ)) (sem 𝓛 (shared_of R (get_or xs i d) b (i * s + o) κ))
  one_seen [] i d o h = absurd (not-suc-le-zero h)
  one_seen (x ∷ xs) zero d o h =
      let e : o ≡ 0 * s + o = omega arith in
      subst (λ (k : ℕ). ent 𝓤 (sem 𝓛 (elements_shared R (x ∷ xs) b o κ)) (sem 𝓛 (shared_of R x b k κ))) e
      (fst∗ 𝓤 (sem 𝓛 (shared_of R x b o κ)) (sem 𝓛 (elements_shared R xs b (o + s) κ)))
  one_seen (x ∷ xs) (suc i) d o h =
      subst (λ (k : ℕ). ent 𝓤 (sem 𝓛 (elements_shared R (x ∷ xs) b o κ)) (sem 𝓛 (shared_of R (get_or xs i d) b k κ))) (next_slot i s o)
      (via 𝓤 (sem 𝓛 (elements_shared R xs b (o + s) κ)) (snd∗ 𝓤 (sem 𝓛 (shared_of R x b o κ)) (sem 𝓛 (elements_shared R xs b (o + s) κ)))
      (one_seen xs i d (o + s) (le_of_suc-le-suc h)))

module _ {M : Type 1} (𝓤 : Ura M) where
  three_said : (φ ψ χ : Type 0) → ent 𝓤 (sep 𝓤 (fact 𝓤 φ) (sep 𝓤 (fact 𝓤 ψ) (fact 𝓤 χ))) (fact 𝓤 (φ × ψ × χ))
  three_said φ ψ χ =
      let F : SProp 𝓤 = sep 𝓤 (fact 𝓤 ψ) (fact 𝓤 χ) in let A : SProp 𝓤 = sep 𝓤 (fact 𝓤 φ) F in
      fact_use 𝓤 φ (fst∗ 𝓤 (fact 𝓤 φ) F) (λ x.
      fact_use 𝓤 ψ (via 𝓤 F (snd∗ 𝓤 (fact 𝓤 φ) F) (fst∗ 𝓤 (fact 𝓤 ψ) (fact 𝓤 χ))) (λ y.
      fact_use 𝓤 χ (via 𝓤 F (snd∗ 𝓤 (fact 𝓤 φ) F) (snd∗ 𝓤 (fact 𝓤 ψ) (fact 𝓤 χ))) (λ z.
      fact_i 𝓤 (φ × ψ × χ) A (x, y, z))))

  pub needs_three : (φ ψ χ : Type 0) (P : SProp 𝓤) {Q : SProp 𝓤} → (φ × ψ × χ → ent 𝓤 P Q) → ent 𝓤 (sep 𝓤 P (sep 𝓤 (fact 𝓤 φ) (sep 𝓤 (fact 𝓤 ψ) (fact 𝓤 χ)))) Q
  needs_three φ ψ χ P h =
      let F : SProp 𝓤 = sep 𝓤 (fact 𝓤 φ) (sep 𝓤 (fact 𝓤 ψ) (fact 𝓤 χ)) in
      fact_use 𝓤 (φ × ψ × χ) (via 𝓤 F (snd∗ 𝓤 P F) (three_said φ ψ χ)) (λ x. via 𝓤 P (fst∗ 𝓤 P F) (h x))
