-- In a legal trace the number of each upcall is in use by nobody.
use Rattle.std.proofs.Common.{◌≡◌, ℕ, ◌+◌, ◌<◌, ◌≤◌, ◌⊎◌, inl, inr, refl, sym, ◌∙◌, ap, subst, arith, Some, None, List, [], ◌∷◌, ◌++◌, length, take, true, false, length-append}
use Rattle.std.specs.Prelude.{is_some, Option, Bool, if◌then◌else◌}
use Rattle.std.specs.List.{list_any}
use Rattle.std.specs.Option.{option_map}
use Rattle.std.proofs.lemmas.Bool.{cases_eq}
use Rattle.std.proofs.lemmas.Option.{none-some, slice_get_within}
use Rattle.sa_lemmas.specs.Function.{put}
use Rattle.sa_lemmas.proofs.FunctionUpdates.{put-at, put-other}
use Rattle.sa_lemmas.proofs.ListUpdates.{slice_get-append_left, slice_get-append_seam, slice_get-push_cases}
use Rattle.sa_base.specs.declared.number.SpaceNo.{SpaceNo}
use Rattle.sa_base.specs.declared.number.ProcNo.{ProcNo}
use Rattle.sa_base.specs.declared.number.ActNo.{ActNo}
use Rattle.sa_base.specs.declared.record.Note.TheVariants as note
use Rattle.sa_base.specs.declared.record.Record.{Record}
use Rattle.sa_base.specs.declared.record.Record.TheVariants.{Ins, Run, Stop, Block, Unblock, Cont, Back, Ready, Take, Free, Up, Told, GiveBack}
use Rattle.sa_base.specs.declared.record.Item.{Item}
use Rattle.sa_spaces.specs.Workload.{WorkloadView}
use Rattle.sa_laws.specs.Machine.{next_effect}
use Rattle.sa_laws.specs.Life.{Life, with_hand, without_lock, with_first, with_cont, ran, held_with, inherits, bereft, new_life}
use Rattle.sa_laws.specs.Readings.{Readings, life_of, running_of}
use Rattle.sa_laws.specs.Record.{with_life, handed, lives_after, after_record, stopped_with, back_with, made_ready, one_thread, locks}
use Rattle.sa_laws.specs.Event.{Event}
use Rattle.sa_laws.specs.History.{Test, is_step, is_up, with_step, ended, stepped, arisen}
use Rattle.sa_laws.specs.Upcalls.{TellsAllThen}
use Rattle.sa_laws.specs.Rules.{UserRules}
use Rattle.sa_laws.specs.Legal.{IsLegal}
use Rattle.sa_laws.proofs.Numbers.{act-by_number}
use Rattle.sa_promises.specs.Headline.{Stands, IsGivenBack, NumbersAreFresh}
use Rattle.sa_histories.proofs.Walk.{IsKept, item}
use Rattle.sa_histories.proofs.Traces.{good-at}
use Rattle.sa_promises.proofs.words.Once.{get-take, length-take_within}

abbrev pub InUse : (ℕ → Option Life) → ActNo → Type 0
InUse lives a = is_some (lives a.0) ≡ true

map-some : (f : Life → Life) (x : Option Life) → is_some (option_map f x) ≡ is_some x
map-some f None = refl
map-some f (Some life) = refl

-- a number in use stays so when a life is changed
pub used-with : (f : Life → Life) (b : Option ActNo) (lives : ℕ → Option Life) (a : ActNo) → InUse lives a → InUse (with_life f b lives) a
used-with f None lives a used = used
used-with f (Some b) lives a used = elim (cases_eq a.0 b.0) [
  | inl same ↦ ap is_some (put-at lives b.0 a.0 (option_map f (lives b.0)) same) ∙ map-some f (lives b.0) ∙ ap (λ n. is_some (lives n)) (sym same) ∙ used
  | inr apart ↦ ap is_some (put-other lives b.0 a.0 (option_map f (lives b.0)) apart) ∙ used
]

used-put : (lives : ℕ → Option Life) (b a : ActNo) (life : Life) → InUse lives a → InUse (put lives b.0 (Some life)) a
used-put lives b a life used = elim (cases_eq a.0 b.0) [
  | inl same ↦ ap is_some (put-at lives b.0 a.0 (Some life) same)
  | inr apart ↦ ap is_some (put-other lives b.0 a.0 (Some life) apart) ∙ used
]

used-handed : (up : Option ActNo) (b : ActNo) (from : Option Life) (lives : ℕ → Option Life) (a : ActNo) → InUse lives a → InUse (handed up b from lives) a
used-handed up b None lives a used = used
used-handed up b (Some from) lives a used =
    used-with (inherits from) up (with_life bereft (Some b) lives) a (used-with bereft (Some b) lives a used)

-- a number in use stays so, but for its giveback
pub used-cases : (w : WorkloadView) (p : ProcNo) (r : Readings) (x : Record) (a : ActNo) → InUse r.lives a
    → InUse (lives_after w p r x) a ⊎ (x ≡ GiveBack a)
used-cases w p r (Ins s t i) a used = inl (used-with (with_hand (next_effect w r.state s t).roused) (running_of r p) r.lives a used)
used-cases w p r (Run s t) a used = inl (used-with (with_first (ran t)) (running_of r p) r.lives a used)
used-cases w p r (Stop s t b) a used = inl (used-with (stopped_with t) (Some b) r.lives a used)
used-cases w p r (Block s t b io) a used = inl (used-with (held_with t) (Some b) r.lives a used)
used-cases w p r (Unblock s t b) a used = inl (used-with (with_hand (one_thread t)) (Some b) r.lives a used)
used-cases w p r (Cont s t) a used = inl (used-with (with_cont true) (running_of r p) r.lives a used)
used-cases w p r (Back s t) a used = inl (used-with (back_with t) (running_of r p) r.lives a used)
used-cases w p r (Ready s t) a used = inl (used-with (made_ready t) (running_of r p) r.lives a used)
used-cases w p r (Take s l t) a used = inl (used-with (locks r p l t) (running_of r p) r.lives a used)
used-cases w p r (Free s l t) a used = inl (used-with without_lock (running_of r p) r.lives a used)
used-cases w p r (Up s b) a used = inl (used-put r.lives b a (new_life s p) used)
used-cases w p r (Told (note.Preempted b)) a used = inl (used-handed r.upped b (life_of r b) r.lives a used)
used-cases w p r (Told (note.Unblocked b)) a used = inl (used-handed r.upped b (life_of r b) r.lives a used)
used-cases w p r (GiveBack b) a used = elim (cases_eq a.0 b.0) [
  | inl same ↦ inr (ap GiveBack (act-by_number b a (sym same)))
  | inr apart ↦ inl (ap is_some (put-other r.lives b.0 a.0 None apart) ∙ used)
]
used-cases w p r x a used = inl used

-- and at the end of an event
used-if : (b : Bool) (f : Life → Life) (n : Option ActNo) (lives : ℕ → Option Life) (a : ActNo) → InUse lives a
    → InUse (if b then with_life f n lives else lives) a
used-if true f n lives a used = used-with f n lives a used
used-if false f n lives a used = used

used-step : (test : Test) (w : WorkloadView) (before : Readings) (e : Event) (after : Readings) (records : List Record) (lives : ℕ → Option Life) (a : ActNo)
    → InUse lives a → InUse (with_step test w before e after records lives) a
used-step test w before e after [] lives a used = used
used-step test w before e after (x ∷ xs) lives a used =
    used-if (is_step x) (stepped test w before e after x) (running_of before e.proc) lives a used

pub used-ended : (test : Test) (w : WorkloadView) (before : Readings) (e : Event) (r : Readings) (a : ActNo) → InUse r.lives a
    → InUse (ended test w before e r).lives a
used-ended test w before e r a used =
    used-if (list_any is_up e.records) (arisen test w before e r) (running_of r e.proc) (with_step test w before e r e.records r.lives) a
    (used-step test w before e r e.records r.lives a used)

-- the number of an up is in use, or was given back
abbrev pub AreInUse : List Item → Readings → Type 0
AreInUse past r = (i : ℕ) (s : SpaceNo) (a : ActNo) → Stands past i (Up s a) → InUse r.lives a ⊎ IsGivenBack past i (length past) a

abbrev pub UpsAreFresh : List Item → Item → Type 0
UpsAreFresh past x =
    (t : SpaceNo) (a : ActNo) → x.what ≡ Up t a → (i : ℕ) (s : SpaceNo) → Stands past i (Up s a) → IsGivenBack past i (length past) a

-- what was given back stays so
given-more : (past : List Item) (x : Item) (i : ℕ) (a : ActNo) → IsGivenBack past i (length past) a
    → IsGivenBack (past ++ x ∷ []) i (length (past ++ x ∷ [])) a
given-more past x i a given =
    let len : length (past ++ x ∷ []) ≡ length past + 1 = length-append past (x ∷ []) in
    let above = given.1 in
    let below = given.2 in
    let stands = given.3 in
    (given.0, above, omega arith, record { item = stands.item; at = slice_get-append_left past (x ∷ []) given.0 below ∙ stands.at; what = stands.what })

given-now : (past : List Item) (x : Item) (i : ℕ) (a : ActNo) → i < length past → x.what ≡ GiveBack a
    → IsGivenBack (past ++ x ∷ []) i (length (past ++ x ∷ [])) a
given-now past x i a below is =
    let len : length (past ++ x ∷ []) ≡ length past + 1 = length-append past (x ∷ []) in
    (length past, below, omega arith, record { item = x; at = slice_get-append_seam past [] x; what = is })

fresh-step : (w : WorkloadView) (e : ℕ) (p : ProcNo) (past : List Item) (r : Readings) (x : Record) → AreInUse past r
    → AreInUse (past ++ item e p x ∷ []) (after_record w e p r x)
fresh-step w e p past r x inv i s a stands = elim (slice_get-push_cases past i (item e p x) stands.item stands.at) [
  | inl new ↦
      let up : x ≡ Up s a = ap (λ (y : Item). y.what) (sym new.1) ∙ stands.what in
      inl (subst (λ y. InUse (lives_after w p r y) a) (sym up) (ap is_some (put-at r.lives a.0 a.0 (Some (new_life s p)) refl)))
  | inr old ↦ elim (inv i s a (record { item = stands.item; at = old; what = stands.what })) [
    | inl used ↦ elim (used-cases w p r x a used) [
      | inl still ↦ inl still
      | inr given ↦ inr (given-now past (item e p x) i a (slice_get_within past i stands.item old) given)
    ]
    | inr given ↦ inr (given-more past (item e p x) i a given)
  ]
]

abbrev nobody : Option Life
nobody = None

fresh-good : (e : ℕ) (p : ProcNo) (past : List Item) (r : Readings) (x : Record) (rest : List Record) → AreInUse past r → TellsAllThen p r x rest
    → UpsAreFresh past (item e p x)
fresh-good e p past r (Up u b) rest inv law t a is i s stands =
    let same : b ≡ a = cc in
    let fresh : r.lives a.0 ≡ None = subst (λ c. life_of r c ≡ None) same law.fresh in
    elim (inv i s a stands) [
      | inl used ↦ absurd (let both : is_some nobody ≡ true = ap is_some (sym fresh) ∙ used in cc)
      | inr given ↦ given
    ]
fresh-good e p past r x rest inv law t a is i s stands = absurd (cc)

fresh-kept : (test : Test) (w : WorkloadView) → IsKept test w TellsAllThen AreInUse (λ e p. AreInUse) UpsAreFresh
fresh-kept test w = record {
  step = λ e p past r x rest inv law. (fresh-step w e p past r x inv, fresh-good e p past r x rest inv law);
  begins = λ past r e inv. inv;
  ends = λ past before e r inv i s a stands. elim (inv i s a stands) [
    | inl used ↦ inl (used-ended test w before e r a used)
    | inr given ↦ inr given
  ];
}

given-within : (items : List Item) (i j : ℕ) (a : ActNo) → j ≤ length items → IsGivenBack (take j items) i (length (take j items)) a → IsGivenBack items i j a
given-within items i j a within given =
    let len = length-take_within items j within in
    let above = given.1 in
    let below = given.2 in
    let stands = given.3 in
    let under : given.0 < j = omega arith in
    (given.0, above, under, record { item = stands.item; at = sym (get-take items j given.0 under) ∙ stands.at; what = stands.what })

pub numbers-are-fresh : (u : UserRules) (w : WorkloadView) (items : List Item) → IsLegal u w items → NumbersAreFresh items
numbers-are-fresh u w items legal i j s t a before first second =
    let good = good-at u w items TellsAllThen AreInUse (λ e p. AreInUse) UpsAreFresh legal (fresh-kept u.inside w) (λ r e law. law.all_told.told)
    (λ k v b stands. absurd (none-some stands.item stands.at)) j second.item second.at in
    let within = slice_get_within items j second.item second.at in
    given-within items i j a (omega arith)
    (good t a second.what i s (record { item = first.item; at = get-take items j i before ∙ first.at; what = first.what }))
