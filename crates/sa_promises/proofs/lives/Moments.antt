-- What follows from the laws of a legal run at each moment of it: of lives by the kernel's rules alone; of who has a list
-- locked where told records come behind ups, and that it is one life where lists are kept apart.
use Rattle.std.proofs.Common.{◌≡◌, ◌≢◌, ℕ, zero, suc, ◌⊎◌, inl, inr, refl, sym, ◌∙◌, ap, subst, arith, Some, None, List, [], ◌∷◌, ◌++◌, take, true}
use Rattle.std.specs.Prelude.{Contains, Option, if◌then◌else◌, is_some, unwrap_or}
use Rattle.std.proofs.lemmas.Bool.{cases_eq, eq-eqb, ne_eqb}
use Rattle.std.proofs.lemmas.Option.{none-some, same_Some}
use Rattle.sa_lemmas.proofs.Membership.{contains-nil}
use Rattle.sa_lemmas.specs.Function.{put}
use Rattle.sa_lemmas.proofs.FunctionUpdates.{put-at, put-other}
use Rattle.sa_base.specs.declared.number.SpaceNo.{SpaceNo}
use Rattle.sa_base.specs.declared.number.ProcNo.{ProcNo}
use Rattle.sa_base.specs.declared.number.ActNo.{ActNo}
use Rattle.sa_base.specs.declared.record.Note.TheVariants as note
use Rattle.sa_base.specs.declared.record.Record.{Record}
use Rattle.sa_base.specs.declared.record.Record.TheVariants.{Stop, Block, Unblock, Up, Told, GiveBack}
use Rattle.sa_base.specs.declared.record.Item.{Item}
use Rattle.sa_spaces.specs.Workload.{WorkloadView, IsWorkload}
use Rattle.sa_share.proofs.RoundLemmas.{shares_of-share}
use Rattle.sa_share.proofs.ShareLemmas.{share_at-unique}
use Rattle.sa_laws.specs.Event.{Event, items_of, events_of}
use Rattle.sa_laws.specs.Life.{Life}
use Rattle.sa_laws.specs.Readings.{Readings, IsLocked, opening_readings, life_of}
use Rattle.sa_laws.specs.Record.{after_record}
use Rattle.sa_laws.specs.History.{Test, event_begun, ended, after_event, readings}
use Rattle.sa_laws.specs.Closing.{first_space, claims_of, shares_at}
use Rattle.sa_laws.specs.Upcalls.{RecordLaw, EachRecord}
use Rattle.sa_laws.specs.Rules.{UserRules, IsLawful}
use Rattle.sa_promises.specs.Needs.{ToldBehindUps, TellsBehindUps, ListsApart, KeepsListsApart}
use Rattle.sa_laws.specs.Legal.{IsLegal, before}
use Rattle.sa_laws.proofs.Lengths.{claims-length}
use Rattle.sa_laws.proofs.Numbers.{proc-by_number, act-by_number}
use Rattle.sa_promises.specs.Lives.{Stand, stand_if, stand_in, stand_said, stand_of, LivesAreRead}
use Rattle.sa_promises.specs.Lives as life
use Rattle.sa_promises.specs.Consequences.{AtEachMoment, RunApart, AreLockedOnce, LockersStand, IsRunning, IsBlocked, IsUntold, SharesAreTheOnes}
use Rattle.sa_histories.proofs.Walk.{IsKept, Along, walk, item, each-both}
use Rattle.sa_promises.proofs.words.Reads.{said-more}
use Rattle.sa_histories.proofs.Traces.{along, legal-lawful, items-events}
use Rattle.sa_promises.proofs.words.Moments.{OnMachine, on-machine, Any}
use Rattle.sa_promises.proofs.words.Timely.{first-below}
use Rattle.sa_promises.proofs.lives.Standing.{Standing, Nowhere, Runs, Blocked, Stopped, Returned, Taken, Agrees, space_of, space_in, took, Stood, standing_after, agrees-step, same-proc}
use Rattle.sa_promises.proofs.lives.Shapes.{AnyMoves, Moves, told-moves}
use Rattle.sa_promises.proofs.lives.Moves.{lawful-any, stood-any, agrees-start, agrees-begun, agrees-ended, nowhere_first}
use Rattle.sa_promises.proofs.lives.Holders.{UppedRuns, AreBare, is_taken, upped-step, bare-step, bare-ended}
use Rattle.sa_promises.proofs.lives.Shown.{Shows, shows-any, shows-start, shows-begun, shows-ended}
use Rattle.sa_promises.proofs.lives.Lockers.{SomeNamed, named-step, named-ended}

-- where a number stands, in plain words
abbrev pub plain : Standing → Stand
plain Nowhere = life.Unused
plain (Runs s p) = life.Running p
plain (Blocked s) = life.InBlock
plain (Stopped s) = life.Stopped
plain (Returned s) = life.Returned
plain (Taken s) = life.Taken

plain-put : (st : ℕ → Standing) (a b : ActNo) (v : Standing) (x : Stand) → plain v ≡ x → plain (put st b.0 v a.0) ≡ unwrap_or (stand_if a b x) (plain (st a.0))
plain-put st a b v x is = elim (cases_eq a.0 b.0) [
  | inl same ↦ ap plain (put-at st b.0 a.0 v same) ∙ is ∙ sym (ap (λ c. unwrap_or (if c then Some x else None) (plain (st a.0))) (eq-eqb b.0 a.0 (sym same)))
  | inr apart ↦ ap plain (put-other st b.0 a.0 v apart)
      ∙ sym (ap (λ c. unwrap_or (if c then Some x else None) (plain (st a.0))) (ne_eqb b.0 a.0 (λ e. apart (sym e))))
]

plain-after : (p : ProcNo) (st : ℕ → Standing) (x : Record) (a : ActNo) → Stood p st x
    → plain (standing_after p st x a.0) ≡ unwrap_or (stand_in a p x) (plain (st a.0))
plain-after p st (Stop s t b) a was = plain-put st a b (Stopped s) life.Stopped refl
plain-after p st (Block s t b io) a was = plain-put st a b (Blocked s) life.InBlock refl
plain-after p st (Unblock s t b) a was = plain-put st a b (Returned s) life.Returned refl
plain-after p st (Up s b) a was = plain-put st a b (Runs s p) (life.Running p) refl
plain-after p st (Told (note.Preempted b)) a was = plain-put st a b (took (st b.0)) life.Taken (ap (λ y. plain (took y)) was.1)
plain-after p st (Told (note.Unblocked b)) a was = plain-put st a b (took (st b.0)) life.Taken (ap (λ y. plain (took y)) was.1)
plain-after p st (GiveBack b) a was = plain-put st a b Nowhere life.Unused refl
plain-after p st _ a was = refl

-- each number stands in one place, as is read
pub record IsSound (w : WorkloadView) (past : List Item) (r : Readings) : Type 0 where
  pub st : ℕ → Standing
  pub agrees : Agrees st r
  pub shows : Shows w st r
  pub told : (a : ActNo) → plain (st a.0) ≡ stand_of past a

abbrev SoundLaw : WorkloadView → ProcNo → RecordLaw
SoundLaw w p r x rest = AnyMoves w p r x rest × OnMachine w p r x rest

sound-step : (w : WorkloadView) (e : ℕ) (p : ProcNo) (past : List Item) (r : Readings) (x : Record) (rest : List Record) → IsSound w past r
    → SoundLaw w p r x rest
    → IsSound w (past ++ item e p x ∷ []) (after_record w e p r x)
sound-step w e p past r x rest s law =
    let was = stood-any w p s.st r x rest s.agrees law.0 in
    record {
      st = standing_after p s.st x;
      agrees = agrees-step w e p s.st r x s.agrees was;
      shows = shows-any w e p s.st r x rest s.shows was law.0 law.1;
      told =
          λ a. said-more (stand_said a) past (item e p x) life.Unused (plain (s.st a.0)) (plain (standing_after p s.st x a.0)) (s.told a)
          (plain-after p s.st x a was);
    }

sound-begins : (w : WorkloadView) (past : List Item) (r : Readings) (e : Event) → IsSound w past r → IsSound w past (event_begun w e r)
sound-begins w past r e s =
    record { st = s.st; agrees = agrees-begun w s.st e r s.agrees; shows = shows-begun w s.st e r s.shows; told = s.told }

sound-ends : (test : Test) (w : WorkloadView) (past : List Item) (first : Readings) (e : Event) (r : Readings) → IsSound w past r
    → IsSound w past (ended test w first e r)
sound-ends test w past first e r s =
    record { st = s.st; agrees = agrees-ended test w s.st first e r s.agrees; shows = shows-ended test w s.st first e r s.shows; told = s.told }

sound-kept : (test : Test) (w : WorkloadView) → IsKept test w (SoundLaw w) (IsSound w) (λ e p. IsSound w) Any
sound-kept test w = record {
  step = λ e p past r x rest inv law. (sound-step w e p past r x rest inv law, tt);
  begins = λ past r e s. sound-begins w past r e s;
  ends = λ past first e r s. sound-ends test w past first e r s;
}

sound-start : (w : WorkloadView) → IsSound w [] (opening_readings w)
sound-start w = record { st = nowhere_first; agrees = agrees-start w; shows = shows-start w; told = λ a. refl }

-- taken lives have no locks
record IsBare (w : WorkloadView) (past : List Item) (r : Readings) : Type 0 where
  pub sound : IsSound w past r
  pub bare : AreBare sound.st r.lives

record IsBareIn (w : WorkloadView) (p : ProcNo) (past : List Item) (r : Readings) : Type 0 where
  pub at : IsBare w past r
  pub runs : UppedRuns at.sound.st p r

abbrev BareLaw : WorkloadView → ProcNo → RecordLaw
BareLaw w p r x rest = SoundLaw w p r x rest × ToldBehindUps r x rest

bare-moves : (w : WorkloadView) (p : ProcNo) (r : Readings) (x : Record) (rest : List Record) → BareLaw w p r x rest → Moves w p r x rest
bare-moves w p r x rest law = told-moves w p r x rest law.0.0 law.1

bare-keeps : (w : WorkloadView) (e : ℕ) (p : ProcNo) (past : List Item) (r : Readings) (x : Record) (rest : List Record) → IsBareIn w p past r
    → BareLaw w p r x rest → IsBareIn w p (past ++ item e p x ∷ []) (after_record w e p r x)
unfolding sound-step
bare-keeps w e p past r x rest inv law =
    let s = inv.at.sound in
    let was = stood-any w p s.st r x rest s.agrees law.0.0 in
    let moves = bare-moves w p r x rest law in
    record {
      at = record {
        sound = sound-step w e p past r x rest s law.0;
        bare = bare-step w p s.st r x rest s.agrees was moves inv.runs inv.at.bare;
      };
      runs = upped-step w e p s.st r x rest was moves inv.runs;
    }

bare-begins : (w : WorkloadView) (past : List Item) (r : Readings) (e : Event) → IsBare w past r → IsBareIn w e.proc past (event_begun w e r)
unfolding sound-begins
bare-begins w past r e inv = record { at = record { sound = sound-begins w past r e inv.sound; bare = inv.bare }; runs = λ no_record. absurd (cc) }

bare-ends : (test : Test) (w : WorkloadView) (past : List Item) (first : Readings) (e : Event) (r : Readings) → IsBare w past r
    → IsBare w past (ended test w first e r)
unfolding sound-ends
bare-ends test w past first e r inv =
    record { sound = sound-ends test w past first e r inv.sound; bare = bare-ended test w inv.sound.st first e r inv.bare }

bare-kept : (test : Test) (w : WorkloadView) → IsKept test w (BareLaw w) (IsBare w) (λ e p. IsBareIn w p) Any
bare-kept test w = record {
  step = λ e p past r x rest inv law. (bare-keeps w e p past r x rest inv law, tt);
  begins = λ past r e inv. bare-begins w past r e inv;
  ends = λ past first e r inv. bare-ends test w past first e r inv.at;
}

bare-start : (w : WorkloadView) → IsBare w [] (opening_readings w)
bare-start w = record { sound = sound-start w; bare = λ n life is. absurd (none-some life is) }

-- and each locked list is one life's
record IsOnce (w : WorkloadView) (past : List Item) (r : Readings) : Type 0 where
  pub at : IsBare w past r
  pub named : SomeNamed r.lives

record IsOnceIn (w : WorkloadView) (p : ProcNo) (past : List Item) (r : Readings) : Type 0 where
  pub in_it : IsBareIn w p past r
  pub named : SomeNamed r.lives

abbrev OnceLaw : WorkloadView → ProcNo → RecordLaw
OnceLaw w p r x rest = BareLaw w p r x rest × ListsApart p r x rest

once-step : (w : WorkloadView) (e : ℕ) (p : ProcNo) (past : List Item) (r : Readings) (x : Record) (rest : List Record) → IsOnceIn w p past r
    → OnceLaw w p r x rest → IsOnceIn w p (past ++ item e p x ∷ []) (after_record w e p r x)
once-step w e p past r x rest inv law =
    let s = inv.in_it.at.sound in
    let was = stood-any w p s.st r x rest s.agrees law.0.0.0 in
    record {
      in_it = bare-keeps w e p past r x rest inv.in_it law.0;
      named = named-step w p s.st r x rest s.agrees was (bare-moves w p r x rest law.0) law.1 inv.in_it.runs inv.named;
    }

once-kept : (test : Test) (w : WorkloadView) → IsKept test w (OnceLaw w) (IsOnce w) (λ e p. IsOnceIn w p) Any
once-kept test w = record {
  step = λ e p past r x rest inv law. (once-step w e p past r x rest inv law, tt);
  begins = λ past r e inv. record { in_it = bare-begins w past r e inv.at; named = inv.named };
  ends = λ past first e r inv. record { at = bare-ends test w past first e r inv.in_it.at; named = named-ended test w first e r inv.named };
}

once-start : (w : WorkloadView) → IsOnce w [] (opening_readings w)
once-start w = record { at = bare-start w; named = ((λ s l. 0), λ n life is. absurd (none-some life is)) }

along-take : (test : Test) (w : WorkloadView) (L : ProcNo → RecordLaw) (r : Readings) (events : List Event) (n : ℕ) → Along test w L r events
    → Along test w L r (take n events)
along-take test w L r [] zero law = tt
along-take test w L r [] (suc n) law = tt
along-take test w L r (e ∷ es) zero law = tt
along-take test w L r (e ∷ es) (suc n) law = (law.0, along-take test w L (after_event test w r e) es n law.1)

sound-each : (u : UserRules) (w : WorkloadView) (r : Readings) (e : Event) → IsLawful u w r e
    → EachRecord (SoundLaw w e.proc) w e.number e.proc (event_begun w e r) e.records
sound-each u w r e law = each-both (AnyMoves w e.proc) (OnMachine w e.proc) w e.number e.proc (event_begun w e r) e.records
    (lawful-any u w r e law) (on-machine w e.proc e.number (event_begun w e r) e.records law.numbered.proc)

bare-each : (u : UserRules) → TellsBehindUps u → (w : WorkloadView) (r : Readings) (e : Event) → IsLawful u w r e
    → EachRecord (BareLaw w e.proc) w e.number e.proc (event_begun w e r) e.records
bare-each u needs w r e law = each-both (SoundLaw w e.proc) ToldBehindUps w e.number e.proc (event_begun w e r) e.records (sound-each u w r e law) (needs.told w r e law)

once-each : (u : UserRules) → KeepsListsApart u → (w : WorkloadView) (r : Readings) (e : Event) → IsLawful u w r e
    → EachRecord (OnceLaw w e.proc) w e.number e.proc (event_begun w e r) e.records
once-each u needs w r e law = each-both (BareLaw w e.proc) (ListsApart e.proc) w e.number e.proc (event_begun w e r) e.records
    (bare-each u needs.tells w r e law) (needs.apart w r e law)

-- what is kept so is so after the first n events
kept-before : (u : UserRules) (w : WorkloadView) (items : List Item) (L : ProcNo → RecordLaw) (Inv : List Item → Readings → Type 0)
    (Mid : ℕ → ProcNo → List Item → Readings → Type 0) → IsKept u.inside w L Inv Mid Any
    → ((r : Readings) (e : Event) → IsLawful u w r e → EachRecord (L e.proc) w e.number e.proc (event_begun w e r) e.records)
    → Inv [] (opening_readings w) → IsLegal u w items → (n : ℕ) → Inv (items_of (take n (events_of items))) (before u w (events_of items) n)
kept-before u w items L Inv Mid kept gives start legal n =
    let law = along u w L gives (opening_readings w) (events_of items) (legal-lawful u w items legal) in
    (walk u.inside w L Inv Mid Any kept [] (opening_readings w) (take n (events_of items)) start
    (along-take u.inside w L (opening_readings w) (events_of items) n law)).0

sound-before : (u : UserRules) (w : WorkloadView) (items : List Item) → IsLegal u w items → (n : ℕ)
    → IsSound w (items_of (take n (events_of items))) (before u w (events_of items) n)
sound-before u w items legal n =
    kept-before u w items (SoundLaw w) (IsSound w) (λ e p. IsSound w) (sound-kept u.inside w) (sound-each u w) (sound-start w) legal n

bare-before : (u : UserRules) → TellsBehindUps u → (w : WorkloadView) (items : List Item) → IsLegal u w items → (n : ℕ)
    → IsBare w (items_of (take n (events_of items))) (before u w (events_of items) n)
bare-before u needs w items legal n =
    kept-before u w items (BareLaw w) (IsBare w) (λ e p. IsBareIn w p) (bare-kept u.inside w) (bare-each u needs w) (bare-start w) legal n

once-before : (u : UserRules) → KeepsListsApart u → (w : WorkloadView) (items : List Item) → IsLegal u w items → (n : ℕ)
    → IsOnce w (items_of (take n (events_of items))) (before u w (events_of items) n)
once-before u needs w items legal n =
    kept-before u w items (OnceLaw w) (IsOnce w) (λ e p. IsOnceIn w p) (once-kept u.inside w) (once-each u needs w) (once-start w) legal n

-- running lives have different numbers
run-apart : (w : WorkloadView) (past : List Item) (r : Readings) → IsSound w past r → RunApart r
run-apart w past r sound p q a one other =
    let here = sound.agrees.running p a one in
    let there = sound.agrees.running q a other in
    proc-by_number p q (same-proc here.0 there.0 p q (sym here.1 ∙ there.1))

-- each locked list is one life's, which stands somewhere
locker : (w : WorkloadView) (past : List Item) (r : Readings) (s : SpaceNo) (l : ProcNo) (sound : IsOnce w past r) (locked : IsLocked r s l)
    → sound.named.0 s.0 l.0 ≡ locked.act.0
locker w past r s l sound locked =
    let who = sound.named.0 in
    ap (λ (x : SpaceNo). who x.0 l.0) (sym locked.has.space)
    ∙ ap (λ (x : ProcNo). who locked.life.space.0 x.0) (sym locked.has.list)
    ∙ sound.named.1 locked.act.0 locked.life locked.is locked.has.lock locked.has.among

locked-once : (w : WorkloadView) (past : List Item) (r : Readings) → IsOnce w past r → AreLockedOnce r
locked-once w past r sound s l one other = act-by_number one.act other.act (sym (locker w past r s l sound one) ∙ locker w past r s l sound other)

lockers-stand : (w : WorkloadView) (past : List Item) (r : Readings) → IsBare w past r → LockersStand w r
lockers-stand w past r inv s l within locked = stands (sound.st locked.act.0) refl where
  sound : IsSound w past r
  sound = inv.sound

  space : space_in (sound.st locked.act.0) ≡ Some s
  space = sym (sound.agrees.lives locked.act) ∙ ap space_of locked.is ∙ ap Some locked.has.space

  stands : (x : Standing) → sound.st locked.act.0 ≡ x → IsRunning r locked.act ⊎ (IsBlocked r locked.act ⊎ IsUntold r s locked.act)
  stands Nowhere is = absurd (none-some s (sym (ap space_in is) ∙ space))
  stands (Runs t q) is = inl (q, sound.shows.running t q locked.act is)
  stands (Blocked t) is = inr (inl (sound.shows.blocked t locked.act is))
  stands (Stopped t) is = inr (inr (inl (sound.shows.stopped s locked.act within (is ∙ ap Stopped (same_Some t s (sym (ap space_in is) ∙ space))))))
  stands (Returned t) is = inr (inr (inr (sound.shows.returned s locked.act within (is ∙ ap Returned (same_Some t s (sym (ap space_in is) ∙ space))))))
  stands (Taken t) is =
      let none = inv.bare locked.act.0 locked.life locked.is (ap is_taken is) in
      absurd (contains-nil locked.has.lock (subst (λ ls. Contains ls locked.has.lock) none locked.has.among))

pub lives-run-apart : (u : UserRules) (w : WorkloadView) (items : List Item) → IsLegal u w items → AtEachMoment u RunApart w items
lives-run-apart u w items legal n =
    run-apart w (items_of (take n (events_of items))) (before u w (events_of items) n) (sound-before u w items legal n)

pub lists-are-locked-once : (u : UserRules) → KeepsListsApart u → (w : WorkloadView) (items : List Item) → IsLegal u w items
    → AtEachMoment u AreLockedOnce w items
lists-are-locked-once u needs w items legal n =
    locked-once w (items_of (take n (events_of items))) (before u w (events_of items) n) (once-before u needs w items legal n)

pub lockers-stand-somewhere : (u : UserRules) → TellsBehindUps u → (w : WorkloadView) (items : List Item) → IsLegal u w items
    → AtEachMoment u (LockersStand w) w items
lockers-stand-somewhere u needs w items legal n =
    lockers-stand w (items_of (take n (events_of items))) (before u w (events_of items) n) (bare-before u needs w items legal n)

-- the shares are the only ones
pub shares-are-the-ones : (w : WorkloadView) (event : ℕ) (r : Readings) → IsWorkload w → SharesAreTheOnes w event r
shares-are-the-ones w event r ok shares s given =
    let some = ok.some_space in
    let few = ok.few_spaces in
    let len = claims-length w r in
    let first = first-below w event some in
    let own = shares_of-share w.processors (first_space w event) (claims_of w r) (omega arith) (omega arith) in
    share_at-unique w.processors (first_space w event) (claims_of w r) shares (shares_at w event r) given own s

-- what is read of lives is what the words say
some-space : (o : Option Life) → is_some (space_of o) ≡ is_some o
some-space None = refl
some-space (Some l) = refl

used-plain : (x : Standing) → is_some (space_in x) ≡ true → plain x ≢ life.Unused
used-plain Nowhere is same = absurd (cc)
used-plain _ is same = cc

plain-used : (x : Standing) → plain x ≢ life.Unused → is_some (space_in x) ≡ true
plain-used Nowhere other = absurd (other refl)
plain-used _ other = refl

abbrev running_in : Stand → Option ProcNo
running_in (life.Running p) = Some p
running_in x = None

runs-plain : (x : Standing) (p : ProcNo) → plain x ≡ life.Running p → (s : SpaceNo) × (x ≡ Runs s p)
runs-plain (Runs s q) p is = (s, ap (Runs s) (same_Some q p (ap running_in is)))
runs-plain _ p is = absurd (cc)

blocked-plain : (x : Standing) → plain x ≡ life.InBlock → (s : SpaceNo) × (x ≡ Blocked s)
blocked-plain (Blocked s) is = (s, refl)
blocked-plain _ is = absurd (cc)

lives-read : (w : WorkloadView) (past : List Item) (r : Readings) → IsSound w past r → LivesAreRead past r
lives-read w past r sound = record {
  used = λ a.
      let same : is_some (life_of r a) ≡ is_some (space_in (sound.st a.0)) = sym (some-space (life_of r a)) ∙ ap is_some (sound.agrees.lives a) in (
        (λ is none. used-plain (sound.st a.0) (sym same ∙ is) (sound.told a ∙ none)),
        λ other. same
            ∙ plain-used (sound.st a.0) (λ none. other (sym (sound.told a) ∙ none)),
      );
  running = λ p a. (
    (λ is. sym (sound.told a) ∙ ap plain (sound.agrees.running p a is).1),
    λ is. let there = runs-plain (sound.st a.0) p (sound.told a ∙ is) in sound.shows.running there.0 p a there.1,
  );
  blocked = λ a. (
    (λ is. sym (sound.told a) ∙ ap plain (sound.agrees.blocked a is).1),
    λ is. let there = blocked-plain (sound.st a.0) (sound.told a ∙ is) in sound.shows.blocked there.0 a there.1,
  );
  taken = λ s a has. sym (sound.told a) ∙ ap plain (sound.agrees.taken s a has);
}

pub lives-are-read : (u : UserRules) (w : WorkloadView) (items : List Item) → IsLegal u w items
    → LivesAreRead items (readings u.inside w (events_of items))
lives-are-read u w items legal =
    let law = along u w (SoundLaw w) (sound-each u w) (opening_readings w) (events_of items) (legal-lawful u w items legal) in
    let sound = (walk u.inside w (SoundLaw w) (IsSound w) (λ e p. IsSound w) Any (sound-kept u.inside w) [] (opening_readings w) (events_of items)
    (sound-start w) law).0 in
    subst (λ (ys : List Item). LivesAreRead ys (readings u.inside w (events_of items))) (items-events items)
    (lives-read w (items_of (events_of items)) (readings u.inside w (events_of items)) sound)
