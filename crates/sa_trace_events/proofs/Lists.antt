-- The lists of items that are found in one pass: each is the one of its track.
use Rattle.std.proofs.Common.{◌≡◌, ℕ, zero, suc, ◌+◌, ◌-◌, ◌<◌, ◌≤◌, Bool, true, false, ◌||◌, if◌then◌else◌, List, [], ◌∷◌, ◌++◌, length, map, take, set, get_or, Option, Some, None, Vec, Global, Result, Ok, Err, OnOk, inl, inr, refl, sym, ap, ◌∙◌, subst, append-nil, append_assoc}
use Rattle.std.specs.Prelude.{replicate, is_ok}
use Rattle.std.proofs.Math.Path.{fun_ext}
use Rattle.std.proofs.lemmas.Bool.{false≢true, eq-eqb, ne_eqb, cases_Bool, cases_eq}
use Rattle.std.proofs.lemmas.List.{length-set, get_or-set_same, get_or-set_other, get_or-map, length-map, length-replicate, map-set, take_all}
use Rattle.sa_lemmas.specs.Function.{put}
use Rattle.sa_lemmas.proofs.FunctionUpdates.{put-at, put-other}
use Rattle.sa_lemmas.proofs.ListReads.{all-same}
use Rattle.sa_base.specs.declared.record.Item.{Item}
use Rattle.sa_base.specs.declared.record.Record.{Record}
use Rattle.sa_trace_events.specs.declared.touches.Group.{Group}
use Rattle.sa_trace_events.specs.declared.touches.Group.TheVariants.{Lanes, Counts, Locks, Threads}
use Rattle.sa_trace_events.specs.declared.touches.Index.{Index}
use Rattle.sa_trace_events.specs.declared.touches.Touch.{Touch}
use Rattle.sa_trace_events.specs.Touches.{is_number, clears, number_by, on_at, on_after, other_than, left_by, touches, clock_after, touch_of, touched_from, touched, nobody, pushed, both_pushed, lists_from, lists_of, IsIndexOf, touches_at}

-- WRITES
pub touch-added : (lists : List (Vec Touch Global)) (n : ℕ) (old new : Vec Touch Global) (e : Touch) → n < length lists → old ≡ get_or lists n old
    → new.items ≡ old.items ++ e ∷ [] → map (λ v. v.items) (set lists n new) ≡ pushed (Some n) e (map (λ v. v.items) lists)
touch-added lists n old new e within is more =
    let items = λ (v : Vec Touch Global). v.items in
    map-set items lists n new
    ∙ ap (λ (list : List Touch). set (map items lists) n list)
    (more ∙ ap (λ (list : List Touch). list ++ e ∷ []) (ap items is ∙ sym (get_or-map items lists n old [] within)))

grown-at : (on : List (Option ℕ)) (m q : ℕ) → get_or (on ++ replicate m None) q None ≡ get_or on q None
grown-at [] m q = all-same m q None
grown-at (x ∷ on) m zero = refl
grown-at (x ∷ on) m (suc q) = grown-at on m q

grown-on : (on : List (Option ℕ)) (m : ℕ) → on_at (on ++ replicate m None) ≡ on_at on
grown-on on m = fun_ext (λ q. grown-at on m q)

pub resized-on : {T E : Type 0} (result : Result T E) (on new : List (Option ℕ)) (n len : ℕ) → length on ≤ n
    → new ≡ (if is_ok result then take n on ++ replicate (n - len) None else on) → OnOk result (on_at new ≡ on_at on)
resized-on (Ok x) on new n len small is =
    ap on_at is ∙ ap (λ (all : List (Option ℕ)). on_at (all ++ replicate (n - len) None)) (take_all n on small) ∙ grown-on on (n - len)
resized-on (Err e) on new n len small is = tt

pub put-on : (on : List (Option ℕ)) (p : ℕ) (number : Option ℕ) → p < length on → on_at (set on p number) ≡ put (on_at on) p number
put-on on p number within = fun_ext (λ q. elim (cases_eq q p) [
  | inl same ↦ ap (λ (k : ℕ). get_or (set on p number) k None) same ∙ get_or-set_same on p number None within ∙ sym (put-at (on_at on) p q number same)
  | inr apart ↦ get_or-set_other on p q number None apart ∙ sym (put-other (on_at on) p q number apart)
])

-- ONE ITEM
abbrev one : Bool → Touch → List Touch
one b e = if b then e ∷ [] else []

abbrev At : List (List Touch) → ℕ → List Touch
At lists n = get_or lists n []

pushed-length : (number : Option ℕ) (e : Touch) (lists : List (List Touch)) → length (pushed number e lists) ≡ length lists
pushed-length None e lists = refl
pushed-length (Some m) e lists = length-set lists m (At lists m ++ e ∷ [])

pushed-at : (number : Option ℕ) (e : Touch) (lists : List (List Touch)) (n : ℕ) → n < length lists
    → At (pushed number e lists) n ≡ At lists n ++ one (is_number n number) e
pushed-at None e lists n within = sym (append-nil (At lists n))
pushed-at (Some m) e lists n within = (elim (cases_eq n m) [
  | inl same ↦
      ap (λ (k : ℕ). At (set lists k (At lists k ++ e ∷ [])) n) (sym same)
      ∙ get_or-set_same lists n (At lists n ++ e ∷ []) [] within
      ∙ ap (λ (b : Bool). At lists n ++ one b e) (sym (eq-eqb m n (sym same)))
  | inr apart ↦
      get_or-set_other lists m n (At lists m ++ e ∷ []) [] apart
      ∙ sym (append-nil (At lists n))
      ∙ ap (λ (b : Bool). At lists n ++ one b e) (sym (ne_eqb m n (λ h. apart (sym h))))
])

-- the thread that a record stops is none that it names
other-unlike : (n : ℕ) (number was : Option ℕ) → is_number n number ≡ true → is_number n (other_than number was) ≡ false
other-unlike n number None is = refl
other-unlike n number (Some m) is = (elim (cases_Bool (is_number m number)) [
  | inl own ↦ ap (λ (b : Bool). is_number n (if b then None else Some m)) own
  | inr apart ↦
      ap (λ (b : Bool). is_number n (if b then None else Some m)) apart
      ∙ ne_eqb m n (λ same. false≢true (sym apart ∙ ap (λ (k : ℕ). is_number k number) same ∙ is))
])

left-unlike : (g : Group) (n : ℕ) (number was : Option ℕ) (r : Record) → is_number n number ≡ true → is_number n (left_by g number was r) ≡ false
left-unlike (Threads s) n number was r is = (elim (clears r) as (λ (b : Bool). is_number n (if b then other_than number was else None) ≡ false) [
  | true ↦ other-unlike n number was is
  | false ↦ refl
])
left-unlike Lanes n number was r is = refl
left-unlike (Counts s) n number was r is = refl
left-unlike (Locks s) n number was r is = refl

either : (a b : Bool) (e : Touch) → (a ≡ true → b ≡ false) → one a e ++ one b e ≡ one (a || b) e
either true b e apart = ap (λ (c : Bool). e ∷ one c e) (apart refl)
either false b e apart = refl

both-at : (g : Group) (on : ℕ → Option ℕ) (e : Touch) (lists : List (List Touch)) (n : ℕ) → n < length lists
    → At (both_pushed g on e lists) n ≡ At lists n ++ one (touches g n on e.item) e
both-at g on e lists n within =
    let number = number_by g e.item in
    let left = left_by g number (on e.item.proc.0) e.item.what in
    let within-2 : n < length (pushed number e lists) = subst (λ (len : ℕ). n < len) (sym (pushed-length number e lists)) within in
    pushed-at left e (pushed number e lists) n within-2
    ∙ ap (λ (list : List Touch). list ++ one (is_number n left) e) (pushed-at number e lists n within)
    ∙ append_assoc (At lists n) (one (is_number n number) e) (one (is_number n left) e)
    ∙ ap (λ (list : List Touch). At lists n ++ list)
    (either (is_number n number) (is_number n left) e (left-unlike g n number (on e.item.proc.0) e.item.what))

both-length : (g : Group) (on : ℕ → Option ℕ) (e : Touch) (lists : List (List Touch)) → length (both_pushed g on e lists) ≡ length lists
both-length g on e lists =
    pushed-length (left_by g (number_by g e.item) (on e.item.proc.0) e.item.what) e (pushed (number_by g e.item) e lists)
    ∙ pushed-length (number_by g e.item) e lists

-- ALL ITEMS
lists-at : (is : List Item) (g : Group) (n : ℕ) (on : ℕ → Option ℕ) (clock k : ℕ) (lists : List (List Touch)) → n < length lists
    → At (lists_from g on clock k is lists) n ≡ At lists n ++ touched_from g n on clock k is
lists-at [] g n on clock k lists within = sym (append-nil (At lists n))
lists-at (i ∷ is) g n on clock k lists within =
    let e = touch_of g clock k i in
    let rest = touched_from g n (on_after g on i) (clock_after g clock i) (k + 1) is in
    let within-2 : n < length (both_pushed g on e lists) = subst (λ (len : ℕ). n < len) (sym (both-length g on e lists)) within in
    lists-at is g n (on_after g on i) (clock_after g clock i) (k + 1) (both_pushed g on e lists) within-2
    ∙ ap (λ (list : List Touch). list ++ rest) (both-at g on e lists n within)
    ∙ append_assoc (At lists n) (one (touches g n on i) e) rest

lists-length : (is : List Item) (g : Group) (on : ℕ → Option ℕ) (clock k : ℕ) (lists : List (List Touch))
    → length (lists_from g on clock k is lists) ≡ length lists
lists-length [] g on clock k lists = refl
lists-length (i ∷ is) g on clock k lists =
    lists-length is g (on_after g on i) (clock_after g clock i) (k + 1) (both_pushed g on (touch_of g clock k i) lists)
    ∙ both-length g on (touch_of g clock k i) lists

-- after all items there are as many lists as at first
pub as-many : (g : Group) (begin count : ℕ) (items : List Item) (lists : List (Vec Touch Global))
    → map (λ v. v.items) lists ≡ lists_of g begin count items → length lists ≡ count
as-many g begin count items lists is =
    let none : List Touch = [] in
    sym (length-map lists (λ (v : Vec Touch Global). v.items))
    ∙ ap (λ (all : List (List Touch)). length all) is
    ∙ lists-length items g nobody begin 0 (replicate count none)
    ∙ length-replicate count none

empty-at : (count n : ℕ) → At (replicate count []) n ≡ []
empty-at count n = all-same count n []

-- what the index has of a track is what is found of the track
pub found : (g : Group) (begin : ℕ) (items : List Item) (index : Index) (n : ℕ) → IsIndexOf g begin items index → n < length index.lists.items
    → touches_at index n ≡ touched g n begin items
found g begin items index n is within =
    let count = length index.lists.items in
    let none : List Touch = [] in
    let empty : List (List Touch) = replicate count none in
    let room : n < length empty = subst (λ (len : ℕ). n < len) (sym (length-replicate count none)) within in
    ap (λ (lists : List (List Touch)). At lists n) is.lists
    ∙ lists-at items g n nobody begin 0 empty room
    ∙ ap (λ (list : List Touch). list ++ touched g n begin items) (empty-at count n)
