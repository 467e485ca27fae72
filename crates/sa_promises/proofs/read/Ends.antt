-- At the end of each event of a legal run, what is read of own events is what the words say.
use Rattle.std.proofs.Common.{◌≡◌, ℕ, refl, sym, ◌∙◌, ap, subst, Some, None, List, [], ◌∷◌, ◌++◌, true, false}
use Rattle.std.specs.Prelude.{Option, Bool, ◌&&◌, ◌||◌, nat_lt, if◌then◌else◌}
use Rattle.std.specs.List.{list_any}
use Rattle.sa_base.specs.declared.number.SpaceNo.{SpaceNo}
use Rattle.sa_base.specs.declared.number.ActNo.{ActNo}
use Rattle.sa_base.specs.declared.record.Record.{Record}
use Rattle.sa_base.specs.declared.record.Record.TheVariants.{Free, Want, Idle}
use Rattle.sa_base.specs.declared.record.Item.{Item}
use Rattle.sa_spaces.specs.Workload.{WorkloadView}
use Rattle.sa_laws.specs.Event.{Event, items_of}
use Rattle.sa_laws.specs.Life.{Life}
use Rattle.sa_laws.specs.Readings.{Readings, running_of, demand_of}
use Rattle.sa_laws.specs.Record.{with_life}
use Rattle.sa_laws.specs.History.{Test, event_begun, behind_all, ended, after_event, is_step, is_up, is_free, is_inside, settles, scans_after, stepped, arisen, with_step, with_up}
use Rattle.sa_laws.specs.Rules.{UserRules, IsLawful}
use Rattle.sa_promises.specs.Needs.{HasForms}
use Rattle.sa_laws.proofs.Records.{items-push}
use Rattle.sa_ranks.specs.Inside.{settling}
use Rattle.sa_base.specs.declared.package.PackageName.{PackageName}
use Rattle.sa_promises.specs.Words.{last_want}
use Rattle.sa_promises.specs.Along.{along}
use Rattle.sa_promises.specs.Moments.{home_of}
use Rattle.sa_promises.specs.Urged.{asked_at, is_urged}
use Rattle.sa_promises.specs.Holdings.{change, locks_at, hands_at, conts_at}
use Rattle.sa_promises.specs.Steps.{stepping, rising, with_event, settles_by, settles_at, set_in, in_by, renewed, scans_by, scans_at, is_free_event, freed_at, idle_behind, idle_by}
use Rattle.sa_promises.proofs.read.Along.{along-more}
use Rattle.sa_promises.proofs.read.Lives.{Said, said-with, said-if, said-same}
use Rattle.sa_promises.proofs.read.Fields.{in_locks, in_hand, open_cont, at_home}
use Rattle.sa_promises.proofs.read.Untouched.{in_now, scanned, was_freed, in-untouched, scanned-untouched, freed-untouched, untouched-records, idle_then, idle-records}
use Rattle.sa_promises.proofs.read.Items.{IsRead}
use Rattle.sa_promises.proofs.read.Known.{first-want}
use Rattle.sa_promises.proofs.read.Events.{IsReadAt, read-begins, read-event, read-next}
use Rattle.sa_promises.proofs.read.OwnEvents.{OwnedByLives, stepper, own-event}
use Rattle.sa_promises.proofs.read.Spaces.{HomesIn}
use Rattle.sa_promises.proofs.read.Raised.{Until}
use Rattle.sa_promises.proofs.read.Urged.{LinesSaid, lines-event, urges, AsksMore, urged-same}
use Rattle.sa_promises.proofs.read.Inside.{HasAt, test-same, settles-same, set-said}

pub record IsSaidAt (test : Test) (w : WorkloadView) (es : List Event) (r : Readings) : Type 0 where
  pub at : IsReadAt w (items_of es) r
  pub owned : OwnedByLives r
  pub lines : LinesSaid w (items_of es) r.lines
  pub inside : (which : PackageName) → AsksMore which test → Said in_now r.lives (along (in_by which w) (λ b. false) es)
  pub scans : Said scanned r.lives (along scans_at (λ b. 0) es)
  pub freed : Said was_freed r.lives (along freed_at (λ b. false) es)
  pub idle : (which : PackageName) → AsksMore which test → Said idle_then r.lives (along (idle_by which w) (λ b. false) es)

-- the step of an event, if it is one
step-said : (test : Test) → {F : Type 0} (g : Life → F) (h : F → F) (w : WorkloadView) (r : Readings) (e : Event) (after : Readings) (n : Option ActNo)
    (lives : ℕ → Option Life) (has : ℕ → F) (xs : List Record)
    → stepper r e xs ≡ n → ((first : Record) (others : List Record) → xs ≡ first ∷ others → (l : Life) → g (stepped test w r e after first l) ≡ h (g l))
    → Said g lives has → Said g (with_step test w r e after xs lives) (change h n has)
step-said test g h w r e after n lives has [] is same said = subst (λ k. Said g lives (change h k has)) is said
step-said test g h w r e after n lives has (first ∷ others) is same said =
    subst (λ k. Said g (with_step test w r e after (first ∷ others) lives) (change h k has)) is (one (is_step first)) where
      one : (b : Bool)
          → Said g (if b then with_life (stepped test w r e after first) (running_of r e.proc) lives else lives)
          (change h (if b then running_of r e.proc else None) has)
      one true = said-with g (stepped test w r e after first) h (running_of r e.proc) lives has (same first others refl) said
      one false = said

step-set : (test : Test)
    → (w : WorkloadView) (now past : List Item) (urged : SpaceNo → Bool) (r : Readings) (e : Event) (after : Readings) (n : Option ActNo)
    (lives : ℕ → Option Life) (has : ℕ → Bool) (xs : List Record)
    → stepper r e xs ≡ n
    → ((first : Record) (others : List Record) → xs ≡ first ∷ others → (a : ActNo) (life : Life) → lives a.0 ≡ Some life
    → (stepped test w r e after first life).inside ≡ Rattle.sa_promises.specs.Steps.is_in_at w now urged (settles_at w past now xs) a)
    → Said in_now lives has → Said in_now (with_step test w r e after xs lives) (set_in w now urged (settles_at w past now xs) n has)
step-set test w now past urged r e after n lives has [] is gives said = subst (λ k. Said in_now lives (set_in w now urged false k has)) is said
step-set test w now past urged r e after n lives has (first ∷ others) is gives said =
    subst (λ k. Said in_now (with_step test w r e after (first ∷ others) lives) (set_in w now urged (settles_by w past now first) k has)) is
    (one (is_step first)) where
      one : (b : Bool) → Said in_now (if b then with_life (stepped test w r e after first) (running_of r e.proc) lives else lives)
          (set_in w now urged (settles_by w past now first) (if b then running_of r e.proc else None) has)
      one true =
          set-said w now urged (settles_by w past now first) (running_of r e.proc) (stepped test w r e after first) lives has
          (λ a life same at. gives first others refl a life at) said
      one false = said

-- A step leaves the fields that it does not change.
keep-step : (test : Test) → {F : Type 0} (g : Life → F) (w : WorkloadView) (r : Readings) (e : Event) (after : Readings) (lives : ℕ → Option Life) (has : ℕ → F)
    (xs : List Record)
    → ((first : Record) (l : Life) → g (stepped test w r e after first l) ≡ g l) → Said g lives has → Said g (with_step test w r e after xs lives) has
keep-step test g w r e after lives has [] same said = said
keep-step test g w r e after lives has (first ∷ others) same said =
    said-if g (is_step first) (stepped test w r e after first) (running_of r e.proc) lives has (same first) said

-- the rising of an event's up
rise-set : (test : Test)
    → (w : WorkloadView) (now : List Item) (urged : SpaceNo → Bool) (r : Readings) (e : Event) (after : Readings) (n : Option ActNo)
    (lives : ℕ → Option Life) (has : ℕ → Bool)
    → (if list_any is_up e.records then running_of after e.proc else None) ≡ n
    → ((a : ActNo) (life : Life) → lives a.0 ≡ Some life
    → (arisen test w r e after life).inside ≡ Rattle.sa_promises.specs.Steps.is_in_at w now urged true a)
    → Said in_now lives has → Said in_now (with_up test w r e after lives) (set_in w now urged true n has)
rise-set test w now urged r e after n lives has is gives said =
    subst (λ k. Said in_now (with_up test w r e after lives) (set_in w now urged true k has)) is (one (list_any is_up e.records)) where
      one : (b : Bool)
          → Said in_now (if b then with_life (arisen test w r e after) (running_of after e.proc) lives else lives)
          (set_in w now urged true (if b then running_of after e.proc else None) has)
      one true = set-said w now urged true (running_of after e.proc) (arisen test w r e after) lives has (λ a life same at. gives a life at) said
      one false = said

scans-same : (past : List Item) (r : Readings) (first : Record) (others : List Record)
    → ((s : SpaceNo) (n : ℕ) → first ≡ Want s n → demand_of r s ≡ last_want past s)
    → (k : ℕ) → scans_after r first k ≡ scans_by past (first ∷ others) k
scans-same past r Idle others wants k = refl
scans-same past r (Want s n) others wants k = ap (λ d. if nat_lt n d then k else 0) (wants s n refl)
scans-same past r x others wants k = refl

free-same : (first : Record) (others : List Record) → is_free first ≡ is_free_event (first ∷ others)
free-same (Free s l t) others = refl
free-same x others = refl

-- what is known of a lawful event
pub record IsEventAt (w : WorkloadView) (past : List Item) (r : Readings) (e : Event) : Type 0 where
  pub after : IsRead w (with_event past e) (behind_all w e r)
  pub homes : HomesIn w (with_event past e)
  pub own : stepper r e e.records ≡ stepping past e
  pub up : (if list_any is_up e.records then running_of (behind_all w e r) e.proc else None) ≡ rising (with_event past e) e
  pub wants : (first : Record) (others : List Record) → e.records ≡ first ∷ others → (s : SpaceNo) (n : ℕ) → first ≡ Want s n → demand_of r s ≡ last_want past s

pub event-at : (rules : UserRules) → HasForms rules → (w : WorkloadView) (past : List Item) (r : Readings) (e : Event) → IsReadAt w past r → OwnedByLives r
    → IsLawful rules w r e
    → IsEventAt w past r e
event-at rules meets w past r e at owned law =
    let mid = read-event rules meets w past r e at law in
    let begins = read-begins w past r e law.numbered.number at in
    record {
      after = mid.read;
      homes = mid.range.homes;
      own = own-event rules meets w past r e at.read at.until owned law;
      up = ap (λ o. if list_any is_up e.records then o else None) (mid.read.running e.proc);
      wants = λ first others is s n same. at.read.demands s (first-want rules meets w r e s n others begins.read.sized law (is ∙ ap (λ x. x ∷ others) same));
    }

-- lives with these fields have what the words say
has-at : (w : WorkloadView) (now : List Item) (lives : ℕ → Option Life) → Said in_locks lives (along (locks_at w) (λ b. []) now)
    → Said in_hand lives (along (hands_at w) (λ b. []) now)
    → Said open_cont lives (along conts_at (λ b. false) now) → Said at_home lives (λ b. home_of now (record { 0 = b })) → (a : ActNo) (life : Life)
    → lives a.0 ≡ Some life → HasAt w now a life
has-at w now lives locks hands conts homes a life is = record {
  locks = locks a.0 life is;
  hand = hands a.0 life is;
  cont = conts a.0 life is;
  home = homes a.0 life is;
}

in-next : (test : Test) (which : PackageName) → AsksMore which test → (w : WorkloadView) (past : List Item) (r : Readings) (e : Event) (has : ℕ → Bool)
    → IsEventAt w past r e
    → ((s : SpaceNo) → urges which w (settling w r e (behind_all w e r)) s ≡ is_urged which w (asked_at past e) s) → Said in_now r.lives has
    → Said in_now (ended test w r e (behind_all w e r)).lives
    (Rattle.sa_promises.specs.Steps.in_with w past (is_urged which w (asked_at past e)) (with_event past e) e has)
in-next test which asks w past r e has known same said =
    let now = with_event past e in
    let urged = is_urged which w (asked_at past e) in
    let after = behind_all w e r in
    let read = known.after in
    let stepped_lives = with_step test w r e after e.records after.lives in
    let first_has = has-at w now after.lives read.locks read.hands read.conts read.homes in
    let then_has = has-at w now stepped_lives (keep-step test in_locks w r e after after.lives _ e.records (λ x l. refl) read.locks)
    (keep-step test in_hand w r e after after.lives _ e.records (λ x l. refl) read.hands)
    (keep-step test open_cont w r e after after.lives _ e.records (λ x l. refl) read.conts)
    (keep-step test at_home w r e after after.lives _ e.records (λ x l. refl) read.homes) in
    let asked = λ (settled : Bool) (a : ActNo) (life : Life) (here : HasAt w now a life).
    asks w r e after settled life ∙ ap (λ b. is_inside w r e after settled life || (settled && b)) (same life.space)
    ∙ test-same w now urged r after e settled a life read (known.homes a (record { space = life.space; proc = life.proc }) (sym here.home)) here in
    let renewed_said = untouched-records in_now false (Some false) w e.number e.proc (event_begun w e r) e.records has in-untouched said in
    let stepped_said = step-set test w now past urged r e after (stepping past e) after.lives (renewed false (Some false) e.records has) e.records known.own
    (λ first others is a life at.
    asked (settles r after first) a life (first_has a life at)
    ∙ ap (λ b. Rattle.sa_promises.specs.Steps.is_in_at w now urged b a)
    (settles-same w past now r after first read.state (known.wants first others is) ∙ ap (settles_at w past now) (sym is)))
    renewed_said in
    rise-set test w now urged r e after (rising now e) stepped_lives
    (set_in w now urged (settles_at w past now e.records) (stepping past e) (renewed false (Some false) e.records has)) known.up
    (λ a life at. asked true a life (then_has a life at)) stepped_said

scans-next : (test : Test) → (w : WorkloadView) (past : List Item) (r : Readings) (e : Event) (has : ℕ → ℕ) → IsEventAt w past r e → Said scanned r.lives has
    → Said scanned (ended test w r e (behind_all w e r)).lives (change (scans_by past e.records) (stepping past e) (renewed 0 None e.records has))
scans-next test w past r e has known said =
    let after = behind_all w e r in
    said-if scanned (list_any is_up e.records) (arisen test w r e after) (running_of after e.proc)
    (with_step test w r e after e.records after.lives) _ (λ l. refl)
    (step-said test scanned (scans_by past e.records) w r e after (stepping past e) after.lives (renewed 0 None e.records has) e.records known.own
    (λ first others is l. scans-same past r first others (known.wants first others is) l.scans ∙ ap (λ xs. scans_by past xs l.scans) (sym is))
    (untouched-records scanned 0 None w e.number e.proc (event_begun w e r) e.records has scanned-untouched said))

freed-next : (test : Test) → (w : WorkloadView) (past : List Item) (r : Readings) (e : Event) (has : ℕ → Bool) → IsEventAt w past r e
    → Said was_freed r.lives has
    → Said was_freed (ended test w r e (behind_all w e r)).lives
    (change (λ old. is_free_event e.records) (stepping past e) (renewed false None e.records has))
freed-next test w past r e has known said =
    let after = behind_all w e r in
    said-if was_freed (list_any is_up e.records) (arisen test w r e after) (running_of after e.proc)
    (with_step test w r e after e.records after.lives) _ (λ l. refl)
    (step-said test was_freed (λ old. is_free_event e.records) w r e after (stepping past e) after.lives (renewed false None e.records has) e.records known.own
    (λ first others is l. free-same first others ∙ ap is_free_event (sym is))
    (untouched-records was_freed false None w e.number e.proc (event_begun w e r) e.records has freed-untouched said))

idle-next : (test : Test) → (w : WorkloadView) (r : Readings) (e : Event) (ins has : ℕ → Bool) → Said in_now r.lives ins → Said idle_then r.lives has
    → Said idle_then (ended test w r e (behind_all w e r)).lives (idle_behind ins e.records has)
idle-next test w r e ins has within said =
    let after = behind_all w e r in
    said-if idle_then (list_any is_up e.records) (arisen test w r e after) (running_of after e.proc)
    (with_step test w r e after e.records after.lives) _ (λ l. refl)
    (keep-step test idle_then w r e after after.lives _ e.records (λ x l. refl) (idle-records w e.number e.proc (event_begun w e r) e.records ins has within said))

pub said-next : (rules : UserRules) → HasForms rules → (w : WorkloadView) (es : List Event) (r : Readings) (e : Event) → IsSaidAt rules.inside w es r
    → IsLawful rules w r e
    → IsSaidAt rules.inside w (es ++ e ∷ []) (after_event rules.inside w r e)
said-next rules meets w es r e inv law =
    let past = items_of es in
    let known = event-at rules meets w past r e inv.at inv.owned law in
    let until : Until past e.number = subst (Until past) (sym law.numbered.number) inv.at.until in
    record {
      at = subst (λ ys. IsReadAt w ys (after_event rules.inside w r e)) (sym (items-push es e)) (read-next rules meets w past r e inv.at law);
      owned = law.where_owned.owned;
      lines = subst (λ ys. LinesSaid w ys (behind_all w e r).lines) (sym (items-push es e)) (lines-event w past r e e.records law.numbered.some until inv.lines);
      inside = λ which asks.
          said-same in_now _ _ _ (λ b. ap (λ (f : ℕ → Bool). f b) (sym (along-more (in_by which w) (λ c. false) es e)))
          (in-next rules.inside which asks w past r e _ known
          (λ s. urged-same which w past r e s law.numbered.some inv.at.read.state until inv.lines) (inv.inside which asks));
      scans = said-same scanned _ _ _ (λ b. ap (λ (f : ℕ → ℕ). f b) (sym (along-more scans_at (λ c. 0) es e))) (scans-next rules.inside w past r e _ known inv.scans);
      freed =
          said-same was_freed _ _ _ (λ b. ap (λ (f : ℕ → Bool). f b) (sym (along-more freed_at (λ c. false) es e))) (freed-next rules.inside w past r e _ known inv.freed);
      idle = λ which asks.
          said-same idle_then _ _ _ (λ b. ap (λ (f : ℕ → Bool). f b) (sym (along-more (idle_by which w) (λ c. false) es e)))
          (idle-next rules.inside w r e _ _ (inv.inside which asks) (inv.idle which asks));
    }
