-- A whole turn: the own part of its event, and after it the closing.
use Rattle.std.proofs.Common.{◌≡◌, ◌≢◌, ℕ, ◌<◌, refl, sym, ◌∙◌, ap, subst, Some, None, List, [], ◌∷◌, ◌++◌, length, map, true}
use Rattle.std.specs.Prelude.{Option, IsSome, slice_set, filter}
use Rattle.std.specs.List.{list_all}
use Rattle.std.proofs.lemmas.List.{append-nil}
use Rattle.std.proofs.lemmas.Bool.{and_parts}
use Rattle.sa_base.specs.declared.number.SpaceNo.{SpaceNo}
use Rattle.sa_base.specs.declared.number.ProcNo.{ProcNo}
use Rattle.sa_base.specs.declared.number.ActNo.{ActNo}
use Rattle.sa_base.specs.declared.record.Record.{Record}
use Rattle.sa_base.specs.declared.record.Record.TheVariants.{Want, Aim, Line}
use Rattle.sa_base.specs.declared.record.Item.{Item}
use Rattle.sa_base.specs.Items.{items_at}
use Rattle.sa_spaces.specs.declared.workload.Evict.{Evict}
use Rattle.sa_spaces.specs.Workload.{WorkloadView}
use Rattle.sa_assign.specs.Reaim.{records_of}
use Rattle.sa_devices.specs.Pages.{evicted}
use Rattle.sa_kernel_model.specs.declared.entry.Entry.{Entry}
use Rattle.sa_kernel_model.specs.State.{KernelState, Scene, Fixed}
use Rattle.sa_kernel_model.specs.Entries.{evicted_at}
use Rattle.sa_kernel_model.specs.Closing.{spaces, wants, aims, closed}
use Rattle.sa_kernel_model.specs.Sound.{IsSound}
use Rattle.sa_kernel_model.proofs.sound.Sound.{sound-evicted, sound-entered_as}
use Rattle.sa_laws.specs.Readings.{Readings}
use Rattle.sa_laws.specs.Record.{after_record, demands_after}
use Rattle.sa_laws.specs.History.{event_begun, after_records}
use Rattle.sa_laws.specs.Shape.{is_of_closing, is_no_want}
use Rattle.sa_laws.specs.Closing.{must_want, want_one, spaces_of, wants_due, aims_due, lines_due}
use Rattle.sa_laws.proofs.Records.{records-append}
use Rattle.sa_laws.proofs.Lengths.{running-length, demands-length}
use Rattle.sa_laws.proofs.Closings.{closing-aims, closing-append, closing-wants, AreClosing}
use Rattle.sa_kernel_laws.specs.Overview.{Overview, overview, read_off}
use Rattle.sa_kernel_laws.specs.Turn.{Turn, CanTurn, MayTurn, IsUnused, what_of, before_entry, turn_on, turned, event_of}
use Rattle.sa_kernel_laws.specs.Kept.{IsOf, IdleAlike, IsKept}
use Rattle.sa_kernel_laws.proofs.entries.Upcalls.{AreLawful}
use Rattle.sa_kernel_laws.proofs.entries.Walks.{items-both}
use Rattle.sa_kernel_laws.proofs.entries.OwnPart.{Turned}
use Rattle.sa_kernel_laws.proofs.entries.EachEntry.{Stands, before_closing, turned-all}
use Rattle.sa_kernel_laws.proofs.closings.Wants.{Wanted, spaces_from, wants-from, wants-lawful}
use Rattle.sa_kernel_laws.proofs.closings.Aims.{aims-walk, aims-lawful}
use Rattle.sa_kernel_laws.proofs.closings.Lines.{Lined, AreLines, lines_from, lines-walk}
use Rattle.sa_kernel_laws.proofs.turns.Shapes.{aims-wants, lines-wants}

-- lists keep their lengths
running-kept : (w : WorkloadView) (e : ℕ) (p : ProcNo) (r : Readings) (xs : List Record) → length (after_records w e p r xs).running ≡ length r.running
running-kept w e p r [] = refl
running-kept w e p r (x ∷ xs) = running-kept w e p (after_record w e p r x) xs ∙ running-length p r.running x

demands-kept : (w : WorkloadView) (e : ℕ) (p : ProcNo) (r : Readings) (xs : List Record) → length (after_records w e p r xs).demands ≡ length r.demands
demands-kept w e p r [] = refl
demands-kept w e p r (x ∷ xs) = demands-kept w e p (after_record w e p r x) xs ∙ demands-length r.demands x

-- after some record there is a last one
last-kept : (w : WorkloadView) (e : ℕ) (p : ProcNo) (r : Readings) (xs : List Record) → IsSome r.last → IsSome (after_records w e p r xs).last
last-kept w e p r [] some = some
last-kept w e p r (x ∷ xs) some = last-kept w e p (after_record w e p r x) xs refl

pub last-some : (w : WorkloadView) (e : ℕ) (p : ProcNo) (r : Readings) (xs : List Record) → xs ≢ [] → IsSome (after_records w e p r xs).last
last-some w e p r [] some = absurd (some refl)
last-some w e p r (x ∷ xs) some = last-kept w e p (after_record w e p r x) xs refl

-- what a closing's records leave as it was
pub record Untouched (r m : Readings) : Type 0 where
  pub lives : m.lives ≡ r.lives
  pub owners : m.state.owners ≡ r.state.owners
  pub untold : m.untold ≡ r.untold

closing-one : (w : WorkloadView) (e : ℕ) (p : ProcNo) (r : Readings) (x : Record) → is_of_closing x ≡ true → Untouched r (after_record w e p r x)
closing-one w e p r (Want s n) is = record { lives = refl; owners = refl; untold = refl }
closing-one w e p r (Aim q s) is = record { lives = refl; owners = refl; untold = refl }
closing-one w e p r (Line q) is = record { lives = refl; owners = refl; untold = refl }
closing-one w e p r x is = absurd (cc)

pub closing-leaves : (w : WorkloadView) (e : ℕ) (p : ProcNo) (r : Readings) (xs : List Record) → AreClosing xs → Untouched r (after_records w e p r xs)
closing-leaves w e p r [] is = record { lives = refl; owners = refl; untold = refl }
closing-leaves w e p r (x ∷ xs) is =
    let one = closing-one w e p r x (and_parts (is_of_closing x) (list_all is_of_closing xs) is).0 in
    let rest = closing-leaves w e p (after_record w e p r x) xs (and_parts (is_of_closing x) (list_all is_of_closing xs) is).1 in
    record { lives = rest.lives ∙ one.lives; owners = rest.owners ∙ one.owners; untold = rest.untold ∙ one.untold }

lines-close : (xs : List Record) → AreLines xs → AreClosing xs
lines-close [] is = refl
lines-close (Line q ∷ xs) is = lines-close xs is
lines-close (x ∷ xs) is = absurd (cc)

-- without a want no demand changes
demands-one : (demands : List ℕ) (x : Record) → is_no_want x ≡ true → demands_after demands x ≡ demands
demands-one demands (Want s n) none = absurd (cc)
demands-one demands x none = refl

pub demands-same : (w : WorkloadView) (e : ℕ) (p : ProcNo) (r : Readings) (xs : List Record) → list_all is_no_want xs ≡ true
    → (after_records w e p r xs).demands ≡ r.demands
demands-same w e p r [] none = refl
demands-same w e p r (x ∷ xs) none =
    demands-same w e p (after_record w e p r x) xs (and_parts (is_no_want x) (list_all is_no_want xs) none).1
    ∙ demands-one r.demands x (and_parts (is_no_want x) (list_all is_no_want xs) none).0

-- the records of items
pub records-said : (e : ℕ) (p : ProcNo) (xs : List Record) → map what_of (items_at e p xs) ≡ xs
records-said e p [] = refl
records-said e p (x ∷ xs) = ap (λ ys. x ∷ ys) (records-said e p xs)

module _ {C : Type 0} where
  -- the closing after a scene, with a reading of it
  pub record Closing (w : WorkloadView) (e : ℕ) (p : ProcNo) (m : Readings) (y : Scene C) : Type 0 where
    pub wanted : Readings
    pub aimed : Readings
    pub lined : Readings
    pub wanted_is : wanted ≡ after_records w e p m (wants_due w m)
    pub aimed_is : aimed ≡ after_records w e p wanted (records_of e wanted.lines (aims_due w e wanted))
    pub lined_is : lined ≡ after_records w e p aimed (lines_due w aimed)
    pub adds : (closed e p y).items ≡ y.items ++ items_at e p (wants_due w m ++ (records_of e wanted.lines (aims_due w e wanted) ++ lines_due w aimed))
    pub reads : overview lined ≡ read_off (closed e p y).state
    pub fixed : (closed e p y).state.fixed ≡ y.state.fixed
    pub lawful : AreLawful w e p m (wants_due w m ++ (records_of e wanted.lines (aims_due w e wanted) ++ lines_due w aimed))
    pub lawful_lines : AreLawful w e p aimed (lines_due w aimed)
    pub lines : AreLines (lines_due w aimed)
    pub closes : AreClosing (wants_due w m ++ (records_of e wanted.lines (aims_due w e wanted) ++ lines_due w aimed))
    pub of : IsOf w (wants e p y).state
    pub spaces : length (closed e p y).state.demands ≡ length w.spaces
    pub late : Untouched wanted lined
    pub late_demands : lined.demands ≡ wanted.demands
    pub lives : lined.lives ≡ m.lives
    pub owners : lined.state.owners ≡ m.state.owners

  pub closing-walk : (w : WorkloadView) (e : ℕ) (p : ProcNo) (m : Readings) (y : Scene C) → IsOf w y.state → length y.state.assign.owners ≡ w.processors
      → overview m ≡ read_off y.state → IdleAlike y.state m → IsSome m.last → Closing w e p m y
  closing-walk w e p m y of owners reads idle last =
      let wl = wants_due w m in
      let y1 = wants e p y in
      let all : map want_one (filter (must_want m) (spaces_from 0 (spaces y.state))) ≡ wl =
      ap (λ n. map want_one (filter (must_want m) (spaces_from 0 n))) of.spaces in
      let one : Wanted w e p m y y1 wl = subst (λ (xs : List Record). Wanted w e p m y y1 xs) all (wants-from w e p m y 0 (spaces y.state) reads idle last) in
      let m1 = after_records w e p m wl in
      let wants_close : AreClosing wl = closing-wants (filter (must_want m) (spaces_of w)) in
      let left1 = closing-leaves w e p m wl wants_close in
      let lives1 : length y1.state.lives ≡ w.processors =
      ap (λ (v : Overview). length v.running) (sym one.reads) ∙ running-kept w e p m wl ∙ ap (λ (v : Overview). length v.running) reads ∙ of.processors in
      let spaces1 : length y1.state.demands ≡ length w.spaces =
      ap (λ (v : Overview). length v.demands) (sym one.reads) ∙ demands-kept w e p m wl ∙ ap (λ (v : Overview). length v.demands) reads ∙ of.spaces in
      let owners1 : length y1.state.assign.owners ≡ w.processors =
      ap (λ (v : Overview). length v.assign.owners) (sym one.reads) ∙ ap (λ (os : List (Option SpaceNo)). length os) left1.owners
      ∙ ap (λ (v : Overview). length v.assign.owners) reads ∙ owners in
      let of1 : IsOf w y1.state = record { fixed = one.fixed ∙ of.fixed; processors = lives1; spaces = spaces1 } in
      let two = aims-walk w e p m1 y1 of1 owners1 one.reads in
      let al = records_of e m1.lines (aims_due w e m1) in
      let y2 = aims e p y1 in
      let m2 = after_records w e p m1 al in
      let aims_close : AreClosing al = closing-aims e m1.lines (aims_due w e m1) in
      let ll = lines_due w m2 in
      let all_lines : lines_from w m2 0 (spaces y2.state) ≡ ll = ap (λ n. lines_from w m2 0 n) spaces1 in
      let y3 = closed e p y in
      let three : Lined w e p m2 y2 y3 ll =
      subst (λ (xs : List Record). Lined w e p m2 y2 y3 xs) all_lines (lines-walk w e p m2 y2 0 (spaces y2.state) lives1 two.reads) in
      let lawful_lines : AreLawful w e p m2 ll = subst (λ xs. AreLawful w e p m2 xs) (append-nil ll) (three.lawful [] tt) in
      record {
        wanted = m1;
        aimed = m2;
        lined = after_records w e p m2 ll;
        wanted_is = refl;
        aimed_is = refl;
        lined_is = refl;
        adds = items-both e p y.items y1.items y3.items wl (al ++ ll) one.adds (items-both e p y1.items y2.items y3.items al ll two.adds three.adds);
        reads = three.reads;
        fixed = three.fixed ∙ one.fixed;
        lawful = wants-lawful w e p m (filter (must_want m) (spaces_of w)) (al ++ ll) (aims-lawful w e p m1 (aims_due w e m1) ll lawful_lines);
        lawful_lines = lawful_lines;
        lines = three.lines;
        closes = closing-append wl (al ++ ll) wants_close (closing-append al ll aims_close (lines-close ll three.lines));
        of = of1;
        spaces =
            ap (λ (v : Overview). length v.demands) (sym three.reads) ∙ demands-kept w e p m2 ll ∙ ap (λ (v : Overview). length v.demands) two.reads ∙ spaces1;
        late = (let a = closing-leaves w e p m1 al aims_close in let b = closing-leaves w e p m2 ll (lines-close ll three.lines) in
            record { lives = b.lives ∙ a.lives; owners = b.owners ∙ a.owners; untold = b.untold ∙ a.untold });
        late_demands = demands-same w e p m2 ll (lines-wants ll three.lines) ∙ demands-same w e p m1 al (aims-wants e m1.lines (aims_due w e m1));
        lives = (closing-leaves w e p m2 ll (lines-close ll three.lines)).lives ∙ (closing-leaves w e p m1 al aims_close).lives ∙ left1.lives;
        owners = (closing-leaves w e p m2 ll (lines-close ll three.lines)).owners ∙ (closing-leaves w e p m1 al aims_close).owners ∙ left1.owners;
      }

  -- a turn does its own part, and then the closing
  pub turn-is : (e : ℕ) (p : ProcNo) (fresh : ActNo) (en : Option (Entry C)) (x : Scene C) → turn_on e p fresh en x ≡ closed e p (before_closing e p fresh en x)
  turn-is e p fresh None x = refl
  turn-is e p fresh (Some entry) x = refl

  sound-own : (e : ℕ) (p : ProcNo) (fresh : ActNo) (en : Option (Entry C)) (x : Scene C) → p.0 < length x.state.lives → MayTurn x.state p e en
      → IsUnused x.state fresh en → x.state.telling ≡ [] → IsSound x.state → IsSound (before_closing e p fresh en x).state
  sound-own e p fresh None x within fit unused empty sound = sound
  sound-own e p fresh (Some entry) x within fit unused empty sound = sound-entered_as e p fresh entry x within fit unused empty sound

  -- the moment at the beginning of an event
  abbrev pub reading_at : WorkloadView → Readings → Turn C → KernelState C → Readings
  reading_at w r t k = event_begun w (event_of t k) r

  begins : (w : WorkloadView) (k : KernelState C) (r : Readings) (t : Turn C) → IsKept w k r → CanTurn w k r t
      → Stands w (evicted_at t.number k) (reading_at w r t k) t.proc
  begins w k r t kept can =
      let F : List Evict → Overview → Overview = λ es (v : Overview). record v {
        assign = record v.assign { lines = slice_set v.assign.lines t.proc.0 None };
        pages = evicted t.number es v.pages;
      } in
      let evictions : w.evictions ≡ k.fixed.evictions = ap (λ (f : Fixed). f.evictions) (sym kept.of.fixed) in
      record {
        sound = sound-evicted t.number k kept.sound;
        tidy = record { added = kept.tidy.added; blocked = kept.tidy.blocked; fetched = kept.tidy.fetched; taken = kept.tidy.taken };
        of = record { fixed = kept.of.fixed; processors = kept.of.processors; spaces = kept.of.spaces };
        empty = can.fetched;
        reads = λ i. F (evictions i) (kept.reads i);
        moved = refl;
        last = refl;
        within = can.within;
        idle = kept.idle;
      }

  -- the whole of a turn
  pub record Whole (w : WorkloadView) (k : KernelState C) (r : Readings) (t : Turn C) : Type 0 where
    pub before : Scene C
    pub own : Turned w t.number t.proc (reading_at w r t k) (evicted_at t.number k) t.says t.entry before
    pub closing : Closing w t.number t.proc (after_records w t.number t.proc (reading_at w r t k) own.records) before
    pub sound : IsSound before.state
    pub of : IsOf w before.state
    pub is : turned t k ≡ closed t.number t.proc before
    pub records : (event_of t k).records
        ≡ own.records ++ (wants_due w (after_records w t.number t.proc (reading_at w r t k) own.records)
        ++ (records_of t.number closing.wanted.lines (aims_due w t.number closing.wanted) ++ lines_due w closing.aimed))
    pub items : (turned t k).items ≡ items_at t.number t.proc (event_of t k).records
    pub behind : after_records w t.number t.proc (reading_at w r t k) (event_of t k).records ≡ closing.lined
    pub lawful : AreLawful w t.number t.proc (reading_at w r t k) (event_of t k).records

  abbrev pub closing_of : (w : WorkloadView) (k : KernelState C) (r : Readings) (t : Turn C) → Whole w k r t → List Record
  closing_of w k r t whole =
      wants_due w (after_records w t.number t.proc (reading_at w r t k) whole.own.records)
      ++ (records_of t.number whole.closing.wanted.lines (aims_due w t.number whole.closing.wanted) ++ lines_due w whole.closing.aimed)

  pub whole-turn : (w : WorkloadView) (k : KernelState C) (r : Readings) (t : Turn C) → IsKept w k r → CanTurn w k r t → Whole w k r t
  whole-turn w k r t kept can =
      let e = t.number in
      let p = t.proc in
      let now = evicted_at e k in
      let c = reading_at w r t k in
      let stands = begins w k r t kept can in
      let own = turned-all w e p c r now t.says t.fresh t.entry stands can.unused (record { lives = refl; running = refl }) can.fits can.says in
      let y = before_closing e p t.fresh t.entry (before_entry t k) in
      let m = after_records w e p c own.records in
      let sound = sound-own e p t.fresh t.entry (before_entry t k) can.within can.fits can.unused can.fetched stands.sound in
      let of : IsOf w y.state = record {
        fixed = own.fixed ∙ kept.of.fixed;
        processors =
            ap (λ (v : Overview). length v.running) (sym own.reads) ∙ running-kept w e p c own.records ∙ ap (λ (v : Overview). length v.running) stands.reads
            ∙ kept.of.processors;
        spaces =
            ap (λ (v : Overview). length v.demands) (sym own.reads) ∙ demands-kept w e p c own.records ∙ ap (λ (v : Overview). length v.demands) stands.reads
            ∙ kept.of.spaces;
      } in
      let owners : length y.state.assign.owners ≡ w.processors = sound.formed.sizes.owners ∙ of.processors in
      let last : IsSome m.last = last-some w e p c own.records own.some in
      let cl = closing-walk w e p m y of owners own.reads own.idle last in
      let wl = wants_due w m in
      let al = records_of e cl.wanted.lines (aims_due w e cl.wanted) in
      let ll = lines_due w cl.aimed in
      let none : List Item = [] in
      let all : turned t k ≡ closed e p y = turn-is e p t.fresh t.entry (before_entry t k) in
      let items : (closed e p y).items ≡ items_at e p (own.records ++ (wl ++ (al ++ ll))) =
      items-both e p none y.items (closed e p y).items own.records (wl ++ (al ++ ll)) own.adds cl.adds in
      let records : (event_of t k).records ≡ own.records ++ (wl ++ (al ++ ll)) =
      ap (λ (x : Scene C). map what_of x.items) all ∙ ap (map what_of) items ∙ records-said e p (own.records ++ (wl ++ (al ++ ll))) in
      let end : after_records w e p m (wl ++ (al ++ ll)) ≡ cl.lined =
      records-append w e p m wl (al ++ ll) ∙ ap (λ (d : Readings). after_records w e p d (al ++ ll)) (sym cl.wanted_is)
      ∙ records-append w e p cl.wanted al ll ∙ ap (λ (d : Readings). after_records w e p d ll) (sym cl.aimed_is) ∙ sym cl.lined_is in
      let middle : after_records w e p c (own.records ++ (wl ++ (al ++ ll))) ≡ cl.lined = records-append w e p c own.records (wl ++ (al ++ ll)) ∙ end in
      record {
        before = y;
        own = own;
        closing = cl;
        sound = sound;
        of = of;
        is = all;
        records = records;
        items = ap (λ (x : Scene C). x.items) all ∙ items ∙ ap (items_at e p) (sym records);
        behind = ap (after_records w e p c) records ∙ middle;
        lawful = subst (λ xs. AreLawful w e p c xs) (sym records) (own.lawful (wl ++ (al ++ ll)) cl.closes cl.lawful);
      }
