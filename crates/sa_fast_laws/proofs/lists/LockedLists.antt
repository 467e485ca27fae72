-- Which lists are locked, and which are open: the history and the package say the same.
use Rattle.std.proofs.Common.{◌≡◌, ℕ, zero, suc, ◌≤◌, ◌<◌, Bool, true, false, List, [], ◌∷◌, map, length, Contains, Option, Some, None, slice_index_or, refl, sym, ap, ◌∙◌, subst, inl, inr, arith}
use Rattle.std.specs.Prelude.{not, ◌&&◌, nat_lt}
use Rattle.std.proofs.lemmas.Bool.{cases_eq, and_parts}
use Rattle.std.proofs.lemmas.Option.{same_Some}
use Rattle.sa_base.specs.declared.number.ActNo.{ActNo}
use Rattle.sa_base.specs.declared.number.ProcNo.{ProcNo}
use Rattle.sa_base.specs.declared.number.SpaceNo.{SpaceNo}
use Rattle.sa_lists.specs.ReadyView.{list_of, is_locked, is_open}
use Rattle.sa_code.specs.Micro.{list_in}
use Rattle.sa_code.specs.declared.state.Frame.{Frame}
use Rattle.sa_fast.proofs.WorkSteps.{one_same, one_other}
use Rattle.sa_abstract.specs.Calls.{Contexts}
use Rattle.sa_abstract.specs.Setting.{Setting}
use Rattle.sa_package_model.proofs.Holding.{own_locked}
use Rattle.sa_package_model.specs.Context.{section_in, before_all}
use Rattle.sa_package_model.specs.Hands.{locks_in, locks_of}
use Rattle.sa_package_model.specs.Stands.{IsStanding}
use Rattle.sa_package_model.specs.declared.context.Context.{Context}
use Rattle.sa_package_model.specs.declared.package.Package.{Package}
use Rattle.sa_laws.specs.Life.{Life, Lock}
use Rattle.sa_laws.specs.Readings.{Readings, has_ready, IsLocked, IsOpen, NoneIsOpen}
use Rattle.sa_fast_laws.specs.FastFits.{Holds}
use Rattle.sa_fast_laws.specs.Life.{lock_of, locks_from, locks_had}
use Rattle.sa_fast_laws.specs.View.{view, in_copy}
use Rattle.sa_fast_laws.proofs.relation.ThreadsBeside.{zero_if}

-- the locks of a context are those of its sections
map_lists : (fs : List Frame) (x : Lock) → Contains (map (lock_of true) fs) x → 1 ≤ locks_in fs x.list.0
map_lists [] x among = absurd (let none : length {A = Lock} [] ≡ 0 = refl in let inside = among.1 in omega arith)
map_lists (f ∷ fs) x among = by (λ more. map_lists fs x more) among.0 among.1 among.2 where
  by : (Contains (map (lock_of true) fs) x → 1 ≤ locks_in fs x.list.0) → (k : ℕ) → k < length (map (lock_of true) (f ∷ fs))
      → slice_index_or (map (lock_of true) (f ∷ fs)) k x ≡ x → 1 ≤ locks_in (f ∷ fs) x.list.0
  by rest zero inside is = let one = one_same (list_in f).0 x.list.0 (ap (λ (y : Lock). y.list.0) is) in omega arith
  by rest (suc k) inside is = let more = rest (k, omega arith, is) in omega arith

lists_had : (copy : Bool) (o : Option Frame) (fs : List Frame) (x : Lock) → Contains (locks_from copy o fs) x
    → 1 ≤ locks_in (before_all o fs) x.list.0
lists_had copy None fs x among = map_lists fs x among
lists_had copy (Some f) fs x among = by among.0 among.1 among.2 where
  by : (k : ℕ) → k < length (locks_from copy (Some f) fs) → slice_index_or (locks_from copy (Some f) fs) k x ≡ x → 1 ≤ locks_in (f ∷ fs) x.list.0
  by zero inside is = let one = one_same (list_in f).0 x.list.0 (ap (λ (y : Lock). y.list.0) is) in omega arith
  by (suc k) inside is = let more = map_lists fs x (k, omega arith, is) in omega arith

pub record HasOne (locks : List Lock) (l : ℕ) : Type 0 where
  pub lock : Lock
  pub among : Contains locks lock
  pub list : lock.list.0 ≡ l

behind : (x : Lock) (locks : List Lock) (l : ℕ) → HasOne locks l → HasOne (x ∷ locks) l
behind x locks l h = record { lock = h.lock; among = (suc h.among.0, (let inside = h.among.1 in omega arith), h.among.2); list = h.list }

has_map : (fs : List Frame) (l : ℕ) → 1 ≤ locks_in fs l → HasOne (map (lock_of true) fs) l
has_map [] l some = absurd (omega arith)
has_map (f ∷ fs) l some = elim (cases_eq (list_in f).0 l) [
  | inl e ↦ record { lock = lock_of true f; among = (zero, omega arith, refl); list = e }
  | inr ne ↦ behind (lock_of true f) (map (lock_of true) fs) l (has_map fs l (let other = one_other (list_in f).0 l ne in omega arith))
]

has_from : (copy : Bool) (o : Option Frame) (fs : List Frame) (l : ℕ) → 1 ≤ locks_in (before_all o fs) l → HasOne (locks_from copy o fs) l
has_from copy None fs l some = has_map fs l some
has_from copy (Some f) fs l some = elim (cases_eq (list_in f).0 l) [
  | inl e ↦ record { lock = lock_of copy f; among = (zero, omega arith, refl); list = e }
  | inr ne ↦ behind (lock_of copy f) (map (lock_of true) fs) l (has_map fs l (let other = one_other (list_in f).0 l ne in omega arith))
]

-- in the history some ready thread is in a list exactly where one is in the package
abbrev pub AreReadyAlike : SpaceNo → Readings → Package → Type 0
AreReadyAlike s r u = (l : ProcNo) → has_ready r s l ≡ nat_lt 0 (length (list_of u.shared.state.lists l.0))

module _ (set : Setting) (e : ℕ) (u : Package) (cs : Contexts Context) (h : IsStanding set e u cs) (s : SpaceNo) (r : Readings)
    (k : Holds s r u cs) where
  pub locked-kept : (l : ProcNo) → IsLocked r s l → is_locked u.shared.state.lists l.0 ≡ true
  locked-kept l locked = by (cs locked.act.0) refl where
    by : (o : Option Context) → cs locked.act.0 ≡ o → is_locked u.shared.state.lists l.0 ≡ true
    by None none =
        let bare = k.others locked.act locked.life locked.is locked.has.space none in
        let inside : locked.has.among.0 < length locked.life.locks = locked.has.among.1 in
        let empty : length locked.life.locks ≡ 0 = ap length bare.locks in absurd (omega arith)
    by (Some d) there =
        let its = k.lives locked.act d there in
        let one : its.0 ≡ locked.life = same_Some its.0 locked.life (sym its.1 ∙ locked.is) in
        let locks : locked.life.locks ≡ locks_had (view d) = ap (λ (x : Life). x.locks) (sym one) ∙ its.2.locks in
        let some =
        lists_had (in_copy d.state) (section_in d.state) d.sections locked.has.lock (subst (λ ls. Contains ls locked.has.lock) locks locked.has.among) in
        own_locked set e u cs h locked.act.0 d there l.0 (subst (λ (m : ProcNo). 1 ≤ locks_of (Some d) m.0) locked.has.list some)

  pub locked-read : (l : ProcNo) → is_locked u.shared.state.lists l.0 ≡ true → IsLocked r s l
  locked-read l locked =
      let found = h.locks.somewhere l.0 (ap zero_if locked) in
      by found.0 (cs found.0) refl found.1 where
        by : (b : ℕ) (o : Option Context) → cs b ≡ o → 1 ≤ locks_of (cs b) l.0 → IsLocked r s l
        by b None none some = absurd (let zero_is : locks_of (cs b) l.0 ≡ 0 = ap (λ x. locks_of x l.0) none in omega arith)
        by b (Some d) there some =
            let act : ActNo = record { 0 = b } in
            let its = k.lives act d there in
            let one = has_from (in_copy d.state) (section_in d.state) d.sections l.0 (subst (λ x. 1 ≤ locks_of x l.0) there some) in
            record {
              act = act;
              life = its.0;
              is = its.1;
              has = record {
                space = its.2.space;
                lock = one.lock;
                among = subst (λ ls. Contains ls one.lock) (sym its.2.locks) one.among;
                list = ap (λ n. record { 0 = n }) one.list;
              };
            }

  module _ (ready-there : AreReadyAlike s r u) where
    pub opens : (l : ProcNo) → is_open u.shared.state.lists l.0 ≡ true → IsOpen r s l
    opens l is =
        let both = and_parts (not (is_locked u.shared.state.lists l.0)) (nat_lt 0 (length (list_of u.shared.state.lists l.0))) is in record {
          ready = ready-there l ∙ both.1;
          unlocked = λ locked. absurd (let yes = locked-kept l locked in let no = both.0 in cc);
        }

    pub opens-not : (l : ProcNo) → is_open u.shared.state.lists l.0 ≡ false → IsOpen r s l → ⊥
    opens-not l is opened = by (is_locked u.shared.state.lists l.0) refl where
      by : (b : Bool) → is_locked u.shared.state.lists l.0 ≡ b → ⊥
      by true locked = opened.unlocked (locked-read l locked)
      by false free =
          let some : nat_lt 0 (length (list_of u.shared.state.lists l.0)) ≡ true = sym (ready-there l) ∙ opened.ready in
          let no : (not (is_locked u.shared.state.lists l.0) && nat_lt 0 (length (list_of u.shared.state.lists l.0))) ≡ true =
          ap (λ b. not b && nat_lt 0 (length (list_of u.shared.state.lists l.0))) free ∙ some in
          absurd cc

    -- none of the lists is open
    pub none-opens : ((l : ℕ) → is_open u.shared.state.lists l ≡ false) → NoneIsOpen r s
    none-opens none = record {
      locked = λ l some. by l some (is_locked u.shared.state.lists l.0) refl;
    } where
      by : (l : ProcNo) → has_ready r s l ≡ true → (b : Bool) → is_locked u.shared.state.lists l.0 ≡ b → IsLocked r s l
      by l some true locked = locked-read l locked
      by l some false free = absurd (
          let here : nat_lt 0 (length (list_of u.shared.state.lists l.0)) ≡ true = sym (ready-there l) ∙ some in
          let no : (not (is_locked u.shared.state.lists l.0) && nat_lt 0 (length (list_of u.shared.state.lists l.0))) ≡ true =
          ap (λ b. not b && nat_lt 0 (length (list_of u.shared.state.lists l.0))) free ∙ here in
          let off = none l.0 in cc)
