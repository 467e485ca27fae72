-- Who holds the lock of a list.
use Rattle.std.proofs.Common.{◌≡◌, ◌==◌, Bool, true, false, List, [], ◌∷◌, Option, Some, None, refl, sym, ap, ◌∙◌}
use Rattle.std.specs.Prelude.{if◌then◌else◌, is_some}
use Rattle.std.proofs.lemmas.Bool.{eqb-true}
use Rattle.std.specs.Option.{option_or}
use Rattle.std.proofs.lemmas.List.Folds.{Any-from_list_any, find-append}
use Rattle.sa_base.specs.declared.number.ProcNo.{ProcNo}
use Rattle.sa_base.specs.declared.number.SpaceNo.{SpaceNo}
use Rattle.sa_base.specs.declared.number.ActNo.{ActNo}
use Rattle.sa_laws.specs.Life.{Life, Lock}
use Rattle.sa_laws.specs.Readings.{Readings, IsLocked, HasList, life_of}
use Rattle.sa_check_ios.proofs.Found.{some-find}
use Rattle.sa_cells.specs.Space.{lock_among, lock_in, lock_at, holder_in, candidates, first_holder}

-- a life that has the lock of a list locks it
both : (b : Bool) (o : Option Lock) → is_some (if b then o else None) ≡ true → (b ≡ true) × (is_some o ≡ true)
both true o is = (refl, is)
both false o is = absurd (let clash : false ≡ true = is in cc)

life-has : (s : SpaceNo) (l : ProcNo) (life : Life) → is_some (lock_in s l (Some life)) ≡ true → HasList life s l
life-has s l life is =
    let parts = both (life.space.0 == s.0) (lock_among l life.locks) is in
    let test : Lock → Bool = λ lock. lock.list.0 == l.0 in
    let some = Any-from_list_any test life.locks (sym (some-find test life.locks) ∙ parts.1) in
    record {
      space = ap (λ n. record { 0 = n }) (eqb-true life.space.0 s.0 parts.0);
      lock = some.1;
      among = (some.0, some.2, some.3);
      list = ap (λ n. record { 0 = n }) (eqb-true some.1.list.0 l.0 some.4);
    }

locks-one : (r : Readings) (s : SpaceNo) (l : ProcNo) (a : ActNo) (life : Option Life) → life_of r a ≡ life → is_some (lock_in s l life) ≡ true → IsLocked r s l
locks-one r s l a None is has = absurd (let clash : false ≡ true = has in cc)
locks-one r s l a (Some life) is has = record { act = a; life = life; is = is; has = life-has s l life has }

untrue : (b : Bool) → (b ≡ true → ⊥) → b ≡ false
untrue true never = absurd (never refl)
untrue false never = refl

-- if nobody locks it, none of any lives has its lock
pub nobody_has : (r : Readings) (s : SpaceNo) (l : ProcNo) (acts : List ActNo) → (IsLocked r s l → ⊥) → holder_in r s l acts ≡ None
nobody_has r s l [] free = refl
nobody_has r s l (a ∷ acts) free =
    ap (λ b. if b then Some a else holder_in r s l acts) (untrue (is_some (lock_at r s l a)) (λ has. free (locks-one r s l a (life_of r a) refl has)))
    ∙ nobody_has r s l acts free

-- the first of the candidates that has it is the first, else the first of all that ever were
found-as : (r : Readings) (s : SpaceNo) (l : ProcNo) (acts ups : List ActNo) → acts ≡ candidates r s
    → option_or (holder_in r s l acts) (holder_in r s l ups) ≡ first_holder r ups s l
found-as r s l acts ups same =
    ap (λ (xs : List ActNo). option_or (holder_in r s l xs) (holder_in r s l ups)) same
    ∙ sym (find-append (λ a. is_some (lock_at r s l a)) (candidates r s) ups)

pub found_first : (r : Readings) (s : SpaceNo) (l : ProcNo) (acts ups : List ActNo) (o : Option ActNo) (a : ActNo) → acts ≡ candidates r s
    → o ≡ holder_in r s l acts → o ≡ Some a → Some a ≡ first_holder r ups s l
found_first r s l acts ups o a same found is =
    sym (ap (λ (x : Option ActNo). option_or x (holder_in r s l ups)) (sym found ∙ is)) ∙ found-as r s l acts ups same

pub found_later : (r : Readings) (s : SpaceNo) (l : ProcNo) (acts ups : List ActNo) (o later : Option ActNo) → acts ≡ candidates r s
    → o ≡ holder_in r s l acts → o ≡ None → later ≡ holder_in r s l ups → later ≡ first_holder r ups s l
found_later r s l acts ups o later same found is other =
    other ∙ sym (ap (λ (x : Option ActNo). option_or x (holder_in r s l ups)) (sym found ∙ is)) ∙ found-as r s l acts ups same
