-- From event to event: at the end of each event of a legal run what is read is what the words say.
use Rattle.std.proofs.Common.{◌≡◌, ◌≢◌, ℕ, suc, ◌<◌, ◌≤◌, refl, sym, ◌∙◌, ap, subst, arith, Some, None, List, [], ◌∷◌, ◌++◌, length, false, append_assoc, append-nil}
use Rattle.std.specs.Prelude.{Option, ◌==◌, if◌then◌else◌, slice_get, All}
use Rattle.std.proofs.lemmas.Bool.{ne_eqb}
use Rattle.std.specs.List.{list_any}
use Rattle.std.specs.Option.{option_or}
use Rattle.std.proofs.lemmas.List.{length-replicate, length-map, get_or-map, get_or-replicate}
use Rattle.std.proofs.lemmas.List.Elements.{All-weaker, All-get_or}
use Rattle.std.proofs.lemmas.Option.{none-some}
use Rattle.sa_base.specs.declared.number.SpaceNo.{SpaceNo}
use Rattle.sa_base.specs.declared.number.ProcNo.{ProcNo}
use Rattle.sa_base.specs.declared.record.Record.{Record}
use Rattle.sa_base.specs.declared.record.Item.{Item}
use Rattle.sa_base.specs.Items.{items_at}
use Rattle.sa_spaces.specs.Workload.{WorkloadView, IsWorkload, IsEviction}
use Rattle.sa_spaces.specs.Space.{IsSpace}
use Rattle.sa_lemmas.proofs.ListReads.{all-same}
use Rattle.sa_devices.specs.Pages.{opening_pages}
use Rattle.sa_devices.proofs.SoundLemmas.{length-evicted}
use Rattle.sa_laws.specs.Event.{Event, items_of}
use Rattle.sa_laws.specs.State.{opening_space, no_space}
use Rattle.sa_laws.specs.Readings.{Readings, opening_readings, first_listed}
use Rattle.sa_laws.specs.Record.{after_record}
use Rattle.sa_laws.specs.History.{Test, event_begun, ended, stepped, arisen, is_step, is_up, with_step, after_records, after_event, after_events, behind_all}
use Rattle.sa_laws.specs.Upcalls.{EachRecord}
use Rattle.sa_laws.specs.Rules.{UserRules, IsLawful}
use Rattle.sa_promises.specs.Needs.{HasForms}
use Rattle.sa_promises.specs.Words.{last_said}
use Rattle.sa_histories.specs.Lawful.{AreLawful}
use Rattle.sa_histories.proofs.Walk.{item}
use Rattle.sa_promises.proofs.lives.Moves.{agrees-start, agrees-begun, agrees-ended, nowhere_first}
use Rattle.sa_laws.specs.Life.{Life}
use Rattle.sa_laws.proofs.Records.{number-kept}
use Rattle.sa_promises.specs.Moments.{directly_before, record_of_event}
use Rattle.sa_promises.specs.Pages.{is_resident_in, evicted_if, is_evicted}
use Rattle.sa_promises.proofs.read.Lives.{Said, said-if}
use Rattle.sa_promises.proofs.read.Fields.{in_locks, in_hand, open_cont, held_thread, at_home}
use Rattle.sa_promises.proofs.read.Pages.{has_at, IsSmall, evicted-more, opening-pages}
use Rattle.sa_promises.proofs.read.Raised.{Until, RaisedAll, raised-begins, raised-ends, EndsWithEvent}
use Rattle.sa_promises.proofs.read.Known.{known-event}
use Rattle.sa_promises.proofs.read.Items.{Known, IsRead, IsReadIn, read-step}
use Rattle.sa_promises.proofs.read.Spaces.{IsInRange, range-start}

-- what is read at the end of an event
pub record IsReadAt (w : WorkloadView) (past : List Item) (r : Readings) : Type 0 where
  pub read : IsRead w past r
  pub range : IsInRange w past r
  pub until : Until past r.number
  pub raised : RaisedAll w past r.lines
  pub pages : (s : SpaceNo) (k : ℕ) → IsWorkload w → s.0 < length w.spaces → k < 16 → has_at r.pages s.0 k ≡ is_resident_in w past s k

-- at the beginning of an event
last-stands : (xs : List Item) (y : Item) → last_said Some xs ≡ Some y → (k : ℕ) × (slice_get xs k ≡ Some y)
last-stands [] y is = absurd (none-some y is)
last-stands (x ∷ xs) y is = more (last_said Some xs) (λ same. last-stands xs y same) is where
  more : (o : Option Item) → (o ≡ Some y → (k : ℕ) × (slice_get xs k ≡ Some y)) → option_or o (Some x) ≡ Some y → (k : ℕ) × (slice_get (x ∷ xs) k ≡ Some y)
  more None there same = (0, same)
  more (Some z) there same = let at = there same in (suc at.0, at.1)

pub last-late : (past : List Item) (e : ℕ) → Until past e → directly_before e past ≡ None
last-late past e until = one (last_said Some past) refl where
  not-now : (y : Item) → y.event < e → (y.event == e) ≡ false
  not-now y below = ne_eqb y.event e (λ same. absurd (omega arith))

  one : (o : Option Item) → last_said Some past ≡ o → record_of_event e o ≡ None
  one None is = refl
  one (Some y) is = let at = last-stands past y is in ap (λ b. if b then Some y.what else None) (not-now y (until at.0 y at.1))

small-evicts : (w : WorkloadView) → IsWorkload w → All IsSmall w.evictions
small-evicts w ok = All-weaker (IsEviction (length w.spaces)) IsSmall (λ e is. let page = is.page in omega arith) w.evictions ok.evictions

pub read-begins : (w : WorkloadView) (past : List Item) (r : Readings) (e : Event) → e.number ≡ r.number → IsReadAt w past r
    → IsReadIn w e.number e.proc past (event_begun w e r)
read-begins w past r e number at =
    let read = at.read in
    let until : Until past e.number = subst (Until past) (sym number) at.until in
    record {
      read = record {
        st = read.st;
        agrees = agrees-begun w read.st e r read.agrees;
        sized = record {
          spaces = read.sized.spaces;
          running = read.sized.running;
          marks = read.sized.marks;
          lines = Rattle.std.proofs.lemmas.List.length-set r.lines e.proc.0 None ∙ read.sized.lines;
          demands = read.sized.demands;
          untold = read.sized.untold;
          taken = read.sized.taken;
          ready = read.sized.ready;
          pages = length-evicted e.number w.evictions r.pages ∙ read.sized.pages;
        };
        state = read.state;
        running = read.running;
        upped = read.upped;
        homes = read.homes;
        demands = read.demands;
        marks = read.marks;
        untold = read.untold;
        stops = read.stops;
        locks = read.locks;
        hands = read.hands;
        conts = read.conts;
        stopped = read.stopped;
        taken = read.taken;
        ready = read.ready;
        all_taken = read.all_taken;
        io_count = read.io_count;
        ios = read.ios;
      };
      last = sym (last-late past e.number until);
      range = record { homes = at.range.homes; aims = at.range.aims };
      until = λ k y there. let early = until k y there in omega arith;
      raised = raised-begins w e.number e.proc past r.lines until at.raised;
      pages = λ s k ok below few.
          let len = read.sized.pages in
          evicted-more e.number w.evictions r.pages s k (small-evicts w ok) (omega arith) few
          ∙ ap (λ b. if is_evicted w e.number s k then false else b) (at.pages s k ok below few)
          ∙ sym
          (ap (λ (o : Option Record). evicted_if (Rattle.std.specs.Prelude.is_none o) w e.number s k (is_resident_in w past s k))
          (last-late past e.number until));
    }

-- at the end of an event the fields of lives that records change are as before
said-ended : (test : Test) → {F : Type 0} (g : Life → F) (w : WorkloadView) (before : Readings) (e : Event) (r : Readings) (has : ℕ → F)
    → ((first : Record) (l : Life) → g (stepped test w before e r first l) ≡ g l) → ((l : Life) → g (arisen test w before e r l) ≡ g l)
    → Said g r.lives has → Said g (ended test w before e r).lives has
said-ended test g w before e r has by_step by_up said =
    said-if g (list_any is_up e.records) (arisen test w before e r) (Rattle.sa_laws.specs.Readings.running_of r e.proc)
    (with_step test w before e r e.records r.lives) has by_up (step e.records) where
      step : (xs : List Record) → Said g (with_step test w before e r xs r.lives) has
      step [] = said
      step (x ∷ xs) =
          said-if g (is_step x) (stepped test w before e r x) (Rattle.sa_laws.specs.Readings.running_of before e.proc) r.lives has (by_step x) said

pub read-ends : (test : Test) → (w : WorkloadView) (past : List Item) (before : Readings) (e : Event) (r : Readings) → r.number ≡ e.number
    → EndsWithEvent e.number e.proc past
    → IsReadIn w e.number e.proc past r → IsReadAt w past (ended test w before e r)
read-ends test w past before e r number ends inv =
    let read = inv.read in
    record {
      read = record {
        st = read.st;
        agrees = agrees-ended test w read.st before e r read.agrees;
        sized = record {
          spaces = read.sized.spaces;
          running = read.sized.running;
          marks = read.sized.marks;
          lines = read.sized.lines;
          demands = read.sized.demands;
          untold = read.sized.untold;
          taken = read.sized.taken;
          ready = read.sized.ready;
          pages = read.sized.pages;
        };
        state = read.state;
        running = read.running;
        upped = read.upped;
        homes = said-ended test at_home w before e r _ (λ x l. refl) (λ l. refl) read.homes;
        demands = read.demands;
        marks = read.marks;
        untold = read.untold;
        stops = read.stops;
        locks = said-ended test in_locks w before e r _ (λ x l. refl) (λ l. refl) read.locks;
        hands = said-ended test in_hand w before e r _ (λ x l. refl) (λ l. refl) read.hands;
        conts = said-ended test open_cont w before e r _ (λ x l. refl) (λ l. refl) read.conts;
        stopped = said-ended test held_thread w before e r _ (λ x l. refl) (λ l. refl) read.stopped;
        taken = read.taken;
        ready = read.ready;
        all_taken = read.all_taken;
        io_count = read.io_count;
        ios = read.ios;
      };
      range = record { homes = inv.range.homes; aims = inv.range.aims };
      until = λ k y there. let early = inv.until k y there in omega arith;
      raised = raised-ends w e.number e.proc past r.lines ends inv.until inv.raised;
      pages = λ s k ok below few.
          inv.pages s k ok below few
          ∙ ap (λ (o : Option Record). evicted_if (Rattle.std.specs.Prelude.is_none o) w e.number s k (is_resident_in w past s k))
          (later e.number e.proc past ends);
    }
  where
    later : (n : ℕ) (p : ProcNo) (ys : List Item) → (there : EndsWithEvent n p ys) → directly_before n ys ≡ Some there.1
    later n p ys there = ap (directly_before n) there.2 ∙ Rattle.sa_promises.proofs.read.Items.last-is n p there.0 there.1

-- the records of an event
pub read-records : (w : WorkloadView) (e : ℕ) (p : ProcNo) (past : List Item) (r : Readings) (xs : List Record) → IsReadIn w e p past r
    → EachRecord (Known w p) w e p r xs
    → IsReadIn w e p (past ++ items_at e p xs) (after_records w e p r xs)
read-records w e p past r [] inv known = subst (λ ys. IsReadIn w e p ys r) (sym (append-nil past)) inv
read-records w e p past r (x ∷ xs) inv known =
    subst (λ ys. IsReadIn w e p ys (after_records w e p (after_record w e p r x) xs)) (append_assoc past (item e p x ∷ []) (items_at e p xs))
    (read-records w e p (past ++ item e p x ∷ []) (after_record w e p r x) xs (read-step w e p past r x xs inv known.0) known.1)

-- some record is the last
last-of : (e : ℕ) (p : ProcNo) (past : List Item) (x : Record) (xs : List Record) → EndsWithEvent e p (past ++ items_at e p (x ∷ xs))
last-of e p past x [] = (past, x, refl)
last-of e p past x (y ∷ ys) =
    let more = last-of e p (past ++ item e p x ∷ []) y ys in (more.0, more.1, sym (append_assoc past (item e p x ∷ []) (items_at e p (y ∷ ys))) ∙ more.2)

ends-event : (e : Event) (past : List Item) → e.records ≢ [] → EndsWithEvent e.number e.proc (past ++ items_at e.number e.proc e.records)
ends-event e past some = one e.records some where
  one : (xs : List Record) → xs ≢ [] → EndsWithEvent e.number e.proc (past ++ items_at e.number e.proc xs)
  one [] none = absurd (none refl)
  one (x ∷ xs) none = last-of e.number e.proc past x xs

-- a lawful event
pub read-event : (rules : UserRules) → HasForms rules → (w : WorkloadView) (past : List Item) (r : Readings) (e : Event) → IsReadAt w past r
    → IsLawful rules w r e
    → IsReadIn w e.number e.proc (past ++ items_at e.number e.proc e.records) (behind_all w e r)
read-event rules meets w past r e at law =
    let begins = read-begins w past r e law.numbered.number at in
    read-records w e.number e.proc past (event_begun w e r) e.records begins (known-event rules meets w r e begins.read.sized (λ s is. at.range.aims e.proc s is) law)

pub read-next : (rules : UserRules) → HasForms rules → (w : WorkloadView) (past : List Item) (r : Readings) (e : Event) → IsReadAt w past r
    → IsLawful rules w r e
    → IsReadAt w (past ++ items_at e.number e.proc e.records) (after_event rules.inside w r e)
read-next rules meets w past r e at law =
    read-ends rules.inside w (past ++ items_at e.number e.proc e.records) r e (behind_all w e r)
    (number-kept w e.number e.proc (event_begun w e r) e.records ∙ sym law.numbered.number)
    (ends-event e past law.numbered.some) (read-event rules meets w past r e at law)

-- before any event

small-pages : (w : WorkloadView) (s : SpaceNo) → IsWorkload w → s.0 < length w.spaces
    → All (λ page. page < 16) (Rattle.sa_laws.specs.State.space_def w s).absent
small-pages w s ok below =
    All-weaker (λ page. page ≤ Rattle.sa_instr.specs.declared.limits.TheConstants.LAST_PAGE) (λ page. page < 16) (λ page is. omega arith)
    (Rattle.sa_laws.specs.State.space_def w s).absent
    (All-get_or IsSpace w.spaces s.0 no_space below ok.spaces).pages

pub read-start : (w : WorkloadView) → IsReadAt w [] (opening_readings w)
read-start w = record {
  read = record {
    st = nowhere_first;
    agrees = agrees-start w;
    sized = record {
      spaces = length-map w.spaces opening_space;
      running = length-replicate w.processors None;
      marks = length-replicate w.processors false;
      lines = length-replicate w.processors None;
      demands = length-replicate (length w.spaces) 0;
      untold = length-replicate (length w.spaces) [];
      taken = length-replicate (length w.spaces) [];
      ready = length-replicate (length w.spaces) (first_listed ∷ []);
      pages = length-map w.spaces opening_pages;
    };
    state = refl;
    running = λ p. all-same w.processors p.0 None;
    upped = refl;
    homes = λ b life is. absurd (none-some life is);
    demands = λ s below. all-same (length w.spaces) s.0 0;
    marks = λ p below. all-same w.processors p.0 false;
    untold = λ s below. all-same (length w.spaces) s.0 [];
    stops = λ s u a below has is. absurd (let h = has in omega (arith, h.1));
    locks = λ b life is. absurd (none-some life is);
    hands = λ b life is. absurd (none-some life is);
    conts = λ b life is. absurd (none-some life is);
    stopped = λ b life is. absurd (none-some life is);
    taken = λ s below. all-same (length w.spaces) s.0 [];
    ready = λ s below. get_or-replicate (length w.spaces) s.0 (first_listed ∷ []) [] below;
    all_taken = λ a home is taken. absurd (none-some home is);
    io_count = refl;
    ios = λ ok. refl;
  };
  range = range-start w;
  until = λ k y at. absurd (none-some y at);
  raised = λ q v below raised. absurd (none-some raised.item raised.at);
  pages = λ s k ok below few.
      ap (λ bits. Rattle.sa_base.specs.Pages.has_page bits k) (get_or-map opening_pages w.spaces s.0 no_space 0 below)
      ∙ opening-pages (Rattle.sa_laws.specs.State.space_def w s).absent k (small-pages w s ok below) few;
}

-- so at the end of each event
pub read-events : (rules : UserRules) → HasForms rules → (w : WorkloadView) (past : List Item) (r : Readings) (events : List Event) → IsReadAt w past r
    → AreLawful rules w r events
    → IsReadAt w (past ++ items_of events) (after_events rules.inside w r events)
read-events rules meets w past r [] at law = subst (λ ys. IsReadAt w ys r) (sym (append-nil past)) at
read-events rules meets w past r (e ∷ es) at law =
    subst (λ ys. IsReadAt w ys (after_events rules.inside w (after_event rules.inside w r e) es))
    (append_assoc past (items_at e.number e.proc e.records) (items_of es))
    (read-events rules meets w (past ++ items_at e.number e.proc e.records) (after_event rules.inside w r e) es (read-next rules meets w past r e at law.0) law.1)
