-- Some life that passes a test, found among the numbers beside the table.
use Rattle.std.proofs.Common.{arith, ◌≡◌, ◌≢◌, ℕ, refl, sym, ◌∙◌, ap, true, false, not, ◌==◌, Bool, List, [], ◌∷◌, Option, Some, None, ◌↔◌}
use Rattle.std.specs.Prelude.{Contains, ◌&&◌}
use Rattle.std.specs.List.{list_any}
use Rattle.std.proofs.lemmas.Bool.{false≢true, not-true, and_parts, and_from, eqb-true, eq-eqb}
use Rattle.std.proofs.lemmas.List.Folds.{Any-from_list_any, list_any-from_Any}
use Rattle.sa_base.specs.declared.number.ProcNo.{ProcNo}
use Rattle.sa_base.specs.declared.number.SpaceNo.{SpaceNo}
use Rattle.sa_base.specs.declared.number.ThreadNo.{ThreadNo}
use Rattle.sa_base.specs.declared.number.ActNo.{ActNo}
use Rattle.sa_laws.specs.Life.{Life, Lock, some_lock, has_lock}
use Rattle.sa_laws.specs.Record.{is_thread}
use Rattle.sa_laws.specs.Readings.{Readings, IsLocked, HasList}
use Rattle.sa_laws.specs.Turns.{AnotherHas}
use Rattle.sa_laws.specs.Locks.{HoldsLock}
use Rattle.sa_check_lives.specs.Table.{AreAmong, SomeIsIn, some_passes, has_list, has_thread, is_in, is_list, is_of_thread, is_inside}

-- a life that passes a test
record Found (test : ℕ → Option Life → Bool) (lives : ℕ → Option Life) : Type 0 where
  act : ℕ
  life : Life
  is : lives act ≡ Some life
  passes : test act (Some life) ≡ true

found-at : (test : ℕ → Option Life → Bool) (lives : ℕ → Option Life) → ((n : ℕ) → test n None ≡ false)
    → (n : ℕ) (here : Option Life) → lives n ≡ here → test n here ≡ true → Found test lives
found-at test lives none n None is passes = absurd (let bad : false ≡ true = sym (none n) ∙ passes in cc)
found-at test lives none n (Some life) is passes = record { act = n; life = life; is = is; passes = passes }

found : (test : ℕ → Option Life → Bool) (lives : ℕ → Option Life) (numbers : List ℕ) → ((n : ℕ) → test n None ≡ false)
    → some_passes test lives numbers ≡ true → Found test lives
found test lives numbers none passes =
    let some = Any-from_list_any (λ a. test a (lives a)) numbers passes in
    found-at test lives none some.1 (lives some.1) refl some.4

-- a life that passes is found, where its number is among the numbers
finds : (p : Life → Bool) (test : ℕ → Option Life → Bool) (lives : ℕ → Option Life) (numbers : List ℕ) → AreAmong p lives numbers
    → (n : ℕ) (life : Life) → lives n ≡ Some life → p life ≡ true → test n (Some life) ≡ true → some_passes test lives numbers ≡ true
finds p test lives numbers among n life is holds passes =
    let there = among.each n life is holds in
    list_any-from_Any (λ a. test a (lives a)) numbers (there.0, n, there.1, there.2, ap (test n) is ∙ passes)

some-contained : (locks : List Lock) (lock : Lock) → Contains locks lock → some_lock locks ≡ true
some-contained [] lock c = absurd (let below = c.1 in omega arith)
some-contained (x ∷ xs) lock c = refl

list-found : (life : Life) (s : SpaceNo) (l : ProcNo) → (life.space.0 == s.0) ≡ true → list_any (is_list l) life.locks ≡ true → HasList life s l
list-found life s l space has =
    let some = Any-from_list_any (is_list l) life.locks has in
    record {
      space = ap (λ n. record { 0 = n }) (eqb-true life.space.0 s.0 space);
      lock = some.1;
      among = (some.0, some.2, some.3);
      list = ap (λ n. record { 0 = n }) (eqb-true some.1.list.0 l.0 some.4);
    }

list-finds : (life : Life) (s : SpaceNo) (l : ProcNo) → HasList life s l → (life.space.0 == s.0 && list_any (is_list l) life.locks) ≡ true
list-finds life s l h = and_from (life.space.0 == s.0) (list_any (is_list l) life.locks)
    (eq-eqb life.space.0 s.0 (ap (λ (x : SpaceNo). x.0) h.space))
    (list_any-from_Any (is_list l) life.locks (h.among.0, h.lock, h.among.1, h.among.2, eq-eqb h.lock.list.0 l.0 (ap (λ (x : ProcNo). x.0) h.list)))

pub locked-iff : (r : Readings) (lives : ℕ → Option Life) (holders : List ℕ) (s : SpaceNo) (l : ProcNo) → AreAmong has_lock lives holders
    → r.lives ≡ lives → (some_passes (has_list None s l) lives holders ≡ true) ↔ IsLocked r s l
locked-iff r lives holders s l among same = (
  (λ holds.
      let f = found (has_list None s l) lives holders (λ n. refl) holds in
      let parts = and_parts (f.life.space.0 == s.0) (list_any (is_list l) f.life.locks) f.passes in
      record {
        act = record { 0 = f.act };
        life = f.life;
        is = ap (λ g. g f.act) same ∙ f.is;
        has = list-found f.life s l parts.0 parts.1;
      }),
  (λ locked. finds has_lock (has_list None s l) lives holders among locked.act.0 locked.life
      (sym (ap (λ g. g locked.act.0) same) ∙ locked.is)
      (some-contained locked.life.locks locked.has.lock locked.has.among)
      (list-finds locked.life s l locked.has)),
)

apart-act : (a b : ActNo) → b ≢ a → not (a.0 == b.0) ≡ true
apart-act a b apart = go (a.0 == b.0) refl where
  go : (t : Bool) → (a.0 == b.0) ≡ t → not t ≡ true
  go true same = absurd (apart (ap (λ n. record { 0 = n }) (sym (eqb-true a.0 b.0 same))))
  go false same = refl

pub other-iff : (r : Readings) (lives : ℕ → Option Life) (holders : List ℕ) (a : ActNo) (s : SpaceNo) (l : ProcNo) → AreAmong has_lock lives holders
    → r.lives ≡ lives → (some_passes (has_list (Some a) s l) lives holders ≡ true) ↔ AnotherHas r a s l
other-iff r lives holders a s l among same = (
  (λ holds.
      let f = found (has_list (Some a) s l) lives holders (λ n. refl) holds in
      let other = and_parts (not (a.0 == f.act)) (f.life.space.0 == s.0 && list_any (is_list l) f.life.locks) f.passes in
      let parts = and_parts (f.life.space.0 == s.0) (list_any (is_list l) f.life.locks) other.1 in
      record {
        other = record { 0 = f.act };
        apart = λ e. false≢true (sym (not-true (a.0 == f.act) other.0) ∙ eq-eqb a.0 f.act (sym (ap (λ (x : ActNo). x.0) e)));
        life = f.life;
        is = ap (λ g. g f.act) same ∙ f.is;
        has = list-found f.life s l parts.0 parts.1;
      }),
  (λ another. finds has_lock (has_list (Some a) s l) lives holders among another.other.0 another.life
      (sym (ap (λ g. g another.other.0) same) ∙ another.is)
      (some-contained another.life.locks another.has.lock another.has.among)
      (and_from (not (a.0 == another.other.0)) (another.life.space.0 == s.0 && list_any (is_list l) another.life.locks)
      (apart-act a another.other another.apart) (list-finds another.life s l another.has))),
)

thread-is : (t : ThreadNo) (o : Option ThreadNo) → is_thread t o ≡ true → o ≡ Some t
thread-is t None is = cc
thread-is t (Some u) is = ap (λ n. Some (record { 0 = n })) (sym (eqb-true t.0 u.0 is))

thread-from : (t : ThreadNo) (o : Option ThreadNo) → o ≡ Some t → is_thread t o ≡ true
thread-from t o is = ap (is_thread t) is ∙ eq-eqb t.0 t.0 refl

pub holds-iff : (r : Readings) (lives : ℕ → Option Life) (holders : List ℕ) (s : SpaceNo) (t : ThreadNo) → AreAmong has_lock lives holders
    → r.lives ≡ lives → (some_passes (has_thread s t) lives holders ≡ true) ↔ HoldsLock r s t
holds-iff r lives holders s t among same = (
  (λ holds.
      let f = found (has_thread s t) lives holders (λ n. refl) holds in
      let parts = and_parts (f.life.space.0 == s.0) (list_any (is_of_thread t) f.life.locks) f.passes in
      let some = Any-from_list_any (is_of_thread t) f.life.locks parts.1 in
      record {
        act = record { 0 = f.act };
        life = f.life;
        is = ap (λ g. g f.act) same ∙ f.is;
        space = ap (λ n. record { 0 = n }) (eqb-true f.life.space.0 s.0 parts.0);
        lock = some.1;
        among = (some.0, some.2, some.3);
        thread = thread-is t some.1.thread some.4;
      }),
  (λ has. finds has_lock (has_thread s t) lives holders among has.act.0 has.life
      (sym (ap (λ g. g has.act.0) same) ∙ has.is)
      (some-contained has.life.locks has.lock has.among)
      (and_from (has.life.space.0 == s.0) (list_any (is_of_thread t) has.life.locks)
      (eq-eqb has.life.space.0 s.0 (ap (λ (x : SpaceNo). x.0) has.space))
      (list_any-from_Any (is_of_thread t) has.life.locks (has.among.0, has.lock, has.among.1, has.among.2, thread-from t has.lock.thread has.thread)))),
)

pub in-iff : (lives : ℕ → Option Life) (insiders : List ℕ) → AreAmong is_inside lives insiders
    → (some_passes is_in lives insiders ≡ true) ↔ SomeIsIn lives
in-iff lives insiders among = (
  (λ holds. let f = found is_in lives insiders (λ n. refl) holds in record { act = f.act; life = f.life; is = f.is; inside = f.passes }),
  (λ some. finds is_inside is_in lives insiders among some.act some.life some.is some.inside some.inside),
)
