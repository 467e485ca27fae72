-- Lives stay at rest where they, their contexts and their stages stay; and one whose stop or return is read stays so.
use Rattle.std.proofs.Common.{◌≡◌, ◌≢◌, min, ◌&&◌, Some, None, sym, ap, ◌∙◌, subst, inl, inr}
use Rattle.std.proofs.lemmas.Bool.{cases_eq}
use Rattle.std.proofs.lemmas.Option.{same_Some, none-some}
use Rattle.sa_base.specs.declared.number.ActNo.{ActNo}
use Rattle.sa_base.specs.declared.number.ProcNo.{ProcNo}
use Rattle.sa_base.specs.declared.number.SpaceNo.{SpaceNo}
use Rattle.sa_instr.specs.declared.limits.TheConstants.{MAX_PATIENCE}
use Rattle.sa_abstract.specs.Calls.{Contexts}
use Rattle.sa_laws.specs.Life.{Life}
use Rattle.sa_laws.specs.Readings.{Readings, life_of}
use Rattle.sa_fast_laws.specs.Life.{IsAtRest, IsMarked}
use Rattle.sa_fast_laws.specs.Stage.{stage_on, stage_of}
use Rattle.sa_fast_laws.specs.View.{View}
use Rattle.sa_fast_laws.specs.Rests.{Rests, RestBut}

-- a life that changes by no end of an own event keeps its marks
pub kept-marks : (v : View) (life now : Life) → now.inside ≡ life.inside → now.freed ≡ life.freed → now.scans ≡ life.scans → now.cont ≡ life.cont
    → IsMarked v life → IsMarked v now
kept-marks v life now inside freed scans cont m = record {
  inside = inside ∙ m.inside;
  back = ap (λ b. b && now.freed) cont ∙ ap (λ b. life.cont && b) freed ∙ m.back;
  scans = ap (λ n. min n MAX_PATIENCE) scans ∙ m.scans;
  left = m.left;
  lone = m.lone;
}

module _ {C : Type 0} (look : C → View) (s : SpaceNo) (r q : Readings) (a : ActNo) where
  -- the other lives
  pub others-rest : (cs ds : Contexts C) → ((x : ActNo) → x.0 ≢ a.0 → ds x.0 ≡ cs x.0) → ((x : ActNo) → x.0 ≢ a.0 → life_of q x ≡ life_of r x)
      → ((x : ActNo) (y : ProcNo) → x.0 ≢ a.0 → stage_on q s x y ≡ stage_on r s x y)
      → RestBut look s r a cs → RestBut look s q a ds
  others-rest cs ds contexts lives stages rest x c life ne at is =
      subst (λ g. IsAtRest g (look c) life) (sym (stages x life.proc ne))
      (rest x c life ne (sym (contexts x ne) ∙ at) (sym (lives x ne) ∙ is))

  -- the other lives, where one has no context any more
  pub others-rest_handed : (b : ActNo) (cs ds : Contexts C) → ds b.0 ≡ None → ((x : ActNo) → x.0 ≢ a.0 → x.0 ≢ b.0 → ds x.0 ≡ cs x.0)
      → ((x : ActNo) → x.0 ≢ a.0 → x.0 ≢ b.0 → life_of q x ≡ life_of r x)
      → ((x : ActNo) (y : ProcNo) → x.0 ≢ a.0 → x.0 ≢ b.0 → stage_on q s x y ≡ stage_on r s x y)
      → RestBut look s r a cs → RestBut look s q a ds
  others-rest_handed b cs ds none contexts lives stages rest x c life ne at is = elim (cases_eq x.0 b.0) [
    | inl same ↦ absurd (none-some c (sym none ∙ sym (ap ds same) ∙ at))
    | inr nb ↦ subst (λ g. IsAtRest g (look c) life) (sym (stages x life.proc ne nb))
        (rest x c life ne (sym (contexts x ne nb) ∙ at) (sym (lives x ne nb) ∙ is))
  ]

  -- with them the life of activation a
  pub rests-with : (cs : Contexts C) (c : C) (now : Life) → cs a.0 ≡ Some c → life_of q a ≡ Some now
      → IsAtRest (stage_of q s a now) (look c) now → RestBut look s q a cs → Rests look s q cs
  rests-with cs c now mine there own rest x d l at is = elim (cases_eq x.0 a.0) [
    | inl same ↦
        let act : x ≡ a = ap (λ n. record { 0 = n }) same in
        let one : now ≡ l = same_Some now l (sym there ∙ sym (ap q.lives same) ∙ is) in
        let ctx : c ≡ d = same_Some c d (sym mine ∙ sym (ap cs same) ∙ at) in
        subst (λ y. IsAtRest (stage_of q s y l) (look d) l) (sym act)
        (subst (λ y. IsAtRest (stage_of q s a l) (look y) l) ctx (subst (λ y. IsAtRest (stage_of q s a y) (look c) y) one own))
    | inr ne ↦ rest x d l ne at is
  ]
