-- Local instructions that are committed at once are as many turns.
use Rattle.std.proofs.Common.{◌≡◌, ◌≢◌, ℕ, zero, suc, ◌+◌, ◌-◌, ◌%◌, ◌<◌, ◌≤◌, ◌==◌, if◌then◌else◌, min, nat_le, Bool, true, false, not, ◌&&◌, Option, Some, None, List, [], ◌∷◌, ◌++◌, get_or, slice_get, slice_set, replicate, append_assoc, refl, sym, ap, subst, ◌∙◌, arith, mod-lt}
use Rattle.std.specs.Option.{option_map}
use Rattle.std.proofs.Math.Nat.{mod-add-mod, mod-eq_of_lt}
use Rattle.std.proofs.lemmas.Bool.Decides.{nat_tests}
use Rattle.std.proofs.lemmas.Option.{same_Some}
use Rattle.std.proofs.lemmas.List.{set-set}
use Rattle.sa_base.specs.declared.number.ProcNo.{ProcNo}
use Rattle.sa_base.specs.declared.number.SpaceNo.{SpaceNo}
use Rattle.sa_base.specs.declared.number.ActNo.{ActNo}
use Rattle.sa_base.specs.declared.limits.TheConstants.{MAX_EVENTS}
use Rattle.sa_base.specs.declared.record.Record.{Record}
use Rattle.sa_base.specs.declared.record.Record.TheVariants.{Ins}
use Rattle.sa_base.specs.declared.record.Item.{Item}
use Rattle.sa_base.specs.Items.{items_at, items_from}
use Rattle.sa_spaces.specs.Space.{SpaceView}
use Rattle.sa_abstract.specs.Calls.{Calls, Stepped, Gone}
use Rattle.sa_abstract.specs.Setting.{Setting}
use Rattle.sa_abstract.specs.Keeps.{Standing, Keeps, StaysLocal, IsGone, records_of, state_after}
use Rattle.sa_abstract.specs.declared.answer.SeatState.{SeatState}
use Rattle.sa_abstract.specs.declared.answer.SeatState.TheVariants.{Local, Away}
use Rattle.sa_abstract.specs.declared.answer.Step.{Step}
use Rattle.sa_devices.specs.Ios.{Io, due_of, io_no, sooner_of}
use Rattle.sa_kernel_model.specs.State.{owner_of, line_of}
use Rattle.sa_core_model.specs.Machine.{Machine, user_of, context_on, seen_on, with_pair, gone, gone_to, step_to, stepped}
use Rattle.sa_core_model.specs.Turn.{next_event, more_events, ends_slice, sliced, sliced_if, asked, turned_owned, turned_due, turned_raised, turned, gone_in, committed}
use Rattle.sa_core_model.specs.End.{local_on, local_in, local_by}
use Rattle.sa_core_model.specs.Run.{setting, CanGo, CanTurn, CanCommit, Move, IsRun}
use Rattle.sa_core_model.specs.Run.Move.{turn}
use Rattle.sa_core_model.specs.Steps.{as_step, both, AreSteps, CanStep}
use Rattle.sa_core_model.specs.Standing.{contexts_of, IsBetween}
use Rattle.sa_core_model.proofs.Phases.{IsAt, at-owned}
use Rattle.sa_core_model.proofs.Calls.{sees-at}
use Rattle.sa_core_model.proofs.Turns.{Rests, rests-next, rests-between, between-rests}
use Rattle.sa_core_model.proofs.Runs.{gone-is, local-is, gone-law, rests-gone, rests-committed, can-go}

-- what is not due at an event was not due before it
none-by : (e g : ℕ) (io : Io) (sooner : Option Io) (b : Bool) → nat_le io.ends g ≡ b → e ≤ g → (if b then Some (sooner_of io sooner) else sooner) ≡ None
    → (nat_le io.ends e ≡ false) × (sooner ≡ None)
none-by e g io sooner true is below none = absurd cc
none-by e g io sooner false is below none = (grind (arith, nat_tests, is, below), none)

none-before : (e g : ℕ) (ios : List Io) → e ≤ g → due_of g ios ≡ None → due_of e ios ≡ None
none-before e g [] below none = refl
none-before e g (io ∷ ios) below none =
    let h = none-by e g io (due_of g ios) (nat_le io.ends g) refl below none in
    rw h.0 (none-before e g ios below h.1)

-- no slice ends before the last of n events
pub whole-slice : (n slice event : ℕ) (b : Bool) → (slice == 0) ≡ b → (if b then n else min n (slice - event % slice)) ≡ n → (k : ℕ) → 1 ≤ k → k < n
    → (not b && ((event + k) % slice == 0)) ≡ false
whole-slice n slice event true zero_is fits k some below = refl
whole-slice n slice event false zero_is fits k some below =
    let apart : slice ≢ 0 = λ e. (let t : (slice == 0) ≡ true = grind (arith, nat_tests, e) in cc) in
    let low : event % slice < slice = mod-lt event (omega (arith, apart)) in
    let within : event % slice + k < slice = omega (arith, fits, low, below) in
    let is : (event + k) % slice ≡ event % slice + k = sym (mod-add-mod event slice k) ∙ mod-eq_of_lt within in
    grind (arith, nat_tests, is, some)

-- one local instruction makes one record, and the others go on after it
one-record : (s : Setting) (n : ℕ) (x : SeatState) → StaysLocal s (suc n) x → (r : Record) × (records_of s 1 x ≡ r ∷ [])
one-record s n (Local space thread program pc regs) goes = (Ins space thread pc, refl)
one-record s n Away goes = absurd goes

first-goes : (s : Setting) (n : ℕ) (x : SeatState) → StaysLocal s (suc n) x → StaysLocal s 1 x
first-goes s n (Local space thread program pc regs) goes = (goes.0, tt)
first-goes s n Away goes = absurd goes

others-go : (s : Setting) (n : ℕ) (x : SeatState) → StaysLocal s (suc n) x → StaysLocal s n (state_after s 1 x)
others-go s n (Local space thread program pc regs) goes = goes.1
others-go s n Away goes = absurd goes

same-items : (e : ℕ) (p : ProcNo) (says : List Record) (r : Record) → says ≡ r ∷ [] → items_at e p says ≡ items_from e p says
same-items e p says r is = rw is refl

items-behind : (e : ℕ) (p : ProcNo) (before : List Item) (says rest : List Record) (r : Record) → says ≡ r ∷ []
    → before ++ items_from e p (says ++ rest) ≡ (before ++ items_from e p says) ++ items_from (e + 1) p rest
items-behind e p before says rest r is = rw is (sym (append_assoc before (record { event = e; proc = p; what = r } ∷ []) (items_from (e + 1) p rest)))

pub get-set : {A : Type 0} (xs : List A) (i : ℕ) (a x : A) → slice_get xs i ≡ Some x → slice_get (slice_set xs i a) i ≡ Some a
get-set [] i a x at = absurd cc
get-set (y ∷ xs) zero a x at = refl
get-set (y ∷ xs) (suc i) a x at = get-set xs i a x at

read-set : {A : Type 0} (xs : List (Option A)) (i : ℕ) (a x : A) → get_or xs i None ≡ Some x → get_or (slice_set xs i (Some a)) i None ≡ Some a
read-set [] i a x at = absurd cc
read-set (y ∷ xs) zero a x at = refl
read-set (y ∷ xs) (suc i) a x at = read-set xs i a x at

module _ {U C : Type 0} (f : Calls U C) (stands : Standing U C) (keep : Keeps f stands) where
  -- the next n events of a processor are local instructions of the context that runs there
  record IsReady (m : Machine U C) (p : ProcNo) (n : ℕ) : Type 0 where
    between : IsBetween stands m
    go : CanGo f m p n
    event : m.event + n ≤ MAX_EVENTS
    low : line_of m.kernel p ≡ None
    whole : (k : ℕ) → 1 ≤ k → k < n → (not (m.workload.slice == 0) && ((m.event + k) % m.workload.slice == 0)) ≡ false
    can : CanStep f m p n

  ready : (m : Machine U C) (p : ProcNo) (n : ℕ) → IsBetween stands m → CanCommit f m p n → CanStep f m p n → IsReady m p n
  ready m p n between commits steps = record {
    between = between;
    go = can-go f stands keep m.event n m p between.standing commits.go;
    event = commits.event;
    low = commits.low;
    whole = whole-slice n m.workload.slice m.event (m.workload.slice == 0) refl commits.slice;
    can = steps;
  }

  -- the first of them: its context, and what comes of it
  record IsFirst (m : Machine U C) (p : ProcNo) (n : ℕ) : Type 0 where
    space : SpaceNo
    rest : Rests f stands keep m.workload m.event (m.event + 1) (next_event m)
    here : IsAt f stands keep (next_event m) p space
    goes : StaysLocal (setting m.workload space.0 here.def) (suc n) (f.local here.user here.ctx)

  first : (m : Machine U C) (p : ProcNo) (n : ℕ) → IsReady m p (suc n) → IsFirst m p n
  first m p n is =
      let x : Machine U C = next_event m in
      let go = is.go in
      let s = go.space in
      let rest = rests-next f stands keep m.workload m.event m.event m (rests-between f stands keep m is.between) in
      let here = at-owned f stands keep m.event x p s rest.standing go.owner in
      let same : go.def ≡ here.def = same_Some go.def here.def (sym go.is_def ∙ here.is_def) in
      record {
        space = s;
        rest = rest;
        here = here;
        goes = subst (λ (d : SpaceView). StaysLocal (setting m.workload s.0 d) (suc n) (f.local here.user here.ctx)) same
            (subst (λ z. StaysLocal (setting m.workload s.0 go.def) (suc n) z) (local-is f stands keep x p s here) go.goes);
      }

  abbrev gone_first : (m : Machine U C) (p : ProcNo) (s : SpaceNo) → U → C → Gone U C
  gone_first m p s u c = f.went u (seen_on (next_event m) p s) c 1

  -- the machine after it
  abbrev behind : (m : Machine U C) (p : ProcNo) (s : SpaceNo) → U → C → Machine U C
  behind m p s u c = gone_to f p s (gone_first m p s u c) (next_event m)

  first-law : (m : Machine U C) (p : ProcNo) (n : ℕ) (is : IsReady m p (suc n)) (at : IsFirst m p n)
      → IsGone f stands (setting m.workload at.space.0 at.here.def) (seen_on (next_event m) p at.space) (contexts_of (next_event m) at.space.0) at.here.act.0 1
      (f.local at.here.user at.here.ctx) (gone_first m p at.space at.here.user at.here.ctx)
  first-law m p n is at =
      gone-law f stands keep m.event 1 (next_event m) p at.space at.rest.standing at.here (omega arith) (omega arith) (omega (arith, is.event))
      (first-goes (setting m.workload at.space.0 at.here.def) n (f.local at.here.user at.here.ctx) at.goes)

  first-says : (m : Machine U C) (p : ProcNo) (n : ℕ) (is : IsReady m p (suc n)) (at : IsFirst m p n)
      → (r : Record) × ((gone_first m p at.space at.here.user at.here.ctx).says ≡ r ∷ [])
  first-says m p n is at =
      let one = one-record (setting m.workload at.space.0 at.here.def) n (f.local at.here.user at.here.ctx) at.goes in
      (one.0, (first-law m p n is at).says ∙ one.1)

  first-steps : (m : Machine U C) (p : ProcNo) (n : ℕ) → IsReady m p (suc n) → (at : IsFirst m p n) → AreSteps f (suc n) at.here.user at.here.ctx
  first-steps m p n is at = is.can.steps at.space at.here.user at.here.ctx at.here.owner at.here.is_user at.here.is_ctx

  -- THE TURN does it, whatever number is fresh
  stepped-is : (m : Machine U C) (p : ProcNo) (s : SpaceNo) (u : U) (c : C) (r : Stepped U C) → user_of m s ≡ Some u → context_on m p ≡ Some c
      → f.stepped u (seen_on m p s) c ≡ r
      → stepped f p s m ≡ (step_to f p s r m, r.answer)
  stepped-is m p s u c r user ctx is = rw (user, ctx, is) refl

  turn-is : (m : Machine U C) (p : ProcNo) (n : ℕ) (fresh : ActNo) → IsReady m p (suc n) → (at : IsFirst m p n)
      → turned f p fresh m ≡ sliced p (behind m p at.space at.here.user at.here.ctx)
  turn-is m p n fresh is at =
      let x : Machine U C = next_event m in
      let s = at.space in
      let u = at.here.user in
      let c = at.here.ctx in
      let r : Gone U C = gone_first m p s u c in
      let due : due_of x.event x.kernel.under_way ≡ None = none-before (m.event + 1) (m.event + suc n) m.kernel.under_way (omega arith) is.can.none_due in
      let step = stepped-is x p s u c (as_step r) at.here.is_user at.here.is_ctx ((first-steps m p n is at).0 (seen_on x p s)) in
      let says = first-says m p n is at in
      let items : items_at x.event p r.says ≡ items_from x.event p r.says = same-items x.event p r.says says.0 says.1 in
      ap (λ (o : Option ℕ). turned_raised f p fresh o x) is.low
      ∙ ap (λ (o : Option Io). turned_due f p fresh (option_map io_no o) x) due
      ∙ ap (λ (o : Option SpaceNo). turned_owned f p fresh o x) at.here.owner
      ∙ ap (λ (z : Machine U C × Step). asked f p fresh z.1 z.0) step
      ∙ ap (λ (list : List Item). sliced p (record (with_pair p s r.user r.ctx x) { items = x.items ++ list })) items

  -- the first of some, after which no slice ends
  no-slice : (m : Machine U C) (p : ProcNo) → ends_slice m ≡ false → sliced p m ≡ m
  no-slice m p ends = ap (λ (b : Bool). sliced_if p b m) ends

  turn-goes : (m : Machine U C) (p : ProcNo) (n : ℕ) (fresh : ActNo) → IsReady m p (suc (suc n)) → (at : IsFirst m p (suc n))
      → turned f p fresh m ≡ behind m p at.space at.here.user at.here.ctx
  turn-goes m p n fresh is at =
      turn-is m p (suc n) fresh is at
      ∙ no-slice (behind m p at.space at.here.user at.here.ctx) p (is.whole 1 (omega arith) (omega arith))

  -- THE COMMIT does it first
  commit-one : (m : Machine U C) (p : ProcNo) → IsReady m p 1 → (at : IsFirst m p 0)
      → committed f p 1 m ≡ sliced p (behind m p at.space at.here.user at.here.ctx)
  commit-one m p is at =
      let x : Machine U C = next_event m in
      ap (λ (o : Option SpaceNo). sliced p (gone_in f p 1 o x)) at.here.owner
      ∙ ap (λ (z : Machine U C). sliced p z) (gone-is f stands keep x p at.space 1 at.here)

  gone-again : (m : Machine U C) (p : ProcNo) (s : SpaceNo) (n : ℕ) (u : U) (c : C) → user_of m s ≡ Some u → context_on m p ≡ Some c
      → gone f p s n m ≡ gone_to f p s (f.went u (seen_on m p s) c n) m
  gone-again m p s n u c user ctx = rw (user, ctx) refl

  go-on : (m : Machine U C) (p : ProcNo) (n : ℕ) → IsReady m p (suc (suc n)) → (at : IsFirst m p (suc n))
      → next_event (gone_in f p (suc (suc n)) (owner_of (next_event m).kernel p) (next_event m))
      ≡ gone_in f p (suc n) (owner_of (next_event m).kernel p) (next_event (behind m p at.space at.here.user at.here.ctx))
  go-on m p n is at =
      let x : Machine U C = next_event m in
      let s = at.space in
      let u = at.here.user in
      let c = at.here.ctx in
      let r : Gone U C = gone_first m p s u c in
      let y : Machine U C = next_event (behind m p s u c) in
      let t : Gone U C = f.went r.user (seen_on y p s) r.ctx (suc n) in
      let split : f.went u (seen_on x p s) c (suc (suc n)) ≡ both r t = (first-steps m p (suc n) is at).1 (seen_on x p s) (seen_on y p s) in
      let says = first-says m p (suc n) is at in
      let old : C = at.here.ctx in
      let joined : next_event (gone_to f p s (both r t) x) ≡ gone_to f p s t y =
      ap (λ (users : List U). next_event (record (gone_to f p s (both r t) x) { users = users })) (sym (set-set x.users s.0 r.user t.user))
      ∙ ap (λ (contexts : List (Option C)). next_event
      (record (gone_to f p s (both r t) x) { users = slice_set (slice_set x.users s.0 r.user) s.0 t.user; contexts = contexts }))
      (sym (set-set x.contexts p.0 (Some r.ctx) (Some t.ctx)))
      ∙ ap (λ (items : List Item). record (gone_to f p s t y) { items = items }) (items-behind x.event p x.items r.says t.says says.0 says.1) in
      ap (λ (o : Option SpaceNo). next_event (gone_in f p (suc (suc n)) o x)) at.here.owner
      ∙ ap (λ (z : Machine U C). next_event z) (gone-is f stands keep x p s (suc (suc n)) at.here)
      ∙ ap (λ (g : Gone U C). next_event (gone_to f p s g x)) split
      ∙ joined
      ∙ sym (gone-again y p s (suc n) r.user r.ctx (get-set x.users s.0 r.user u at.here.is_user) (read-set x.contexts p.0 r.ctx c at.here.is_ctx))
      ∙ sym (ap (λ (o : Option SpaceNo). gone_in f p (suc n) o y) at.here.owner)

  commit-goes : (m : Machine U C) (p : ProcNo) (n : ℕ) → IsReady m p (suc (suc n)) → (at : IsFirst m p (suc n))
      → committed f p (suc (suc n)) m ≡ committed f p (suc n) (behind m p at.space at.here.user at.here.ctx)
  commit-goes m p n is at = ap (λ (z : Machine U C). sliced p (more_events n z)) (go-on m p n is at)

  -- AND THE OTHERS are ready then
  behind-local : (m : Machine U C) (p : ProcNo) (n : ℕ) (is : IsReady m p (suc n)) (at : IsFirst m p n)
      → local_on f (behind m p at.space at.here.user at.here.ctx) p
      ≡ state_after (setting m.workload at.space.0 at.here.def) 1 (f.local at.here.user at.here.ctx)
  behind-local m p n is at =
      let x : Machine U C = next_event m in
      let r : Gone U C = gone_first m p at.space at.here.user at.here.ctx in
      let y : Machine U C = behind m p at.space at.here.user at.here.ctx in
      ap (λ (o : Option SpaceNo). local_in f y p o) at.here.owner
      ∙ ap (λ (o : Option U). local_by f o (context_on y p)) (get-set x.users at.space.0 r.user at.here.user at.here.is_user)
      ∙ ap (λ (o : Option C). local_by f (Some r.user) o) (read-set x.contexts p.0 r.ctx at.here.ctx at.here.is_ctx)
      ∙ (first-law m p n is at).state

  behind-between : (m : Machine U C) (p : ProcNo) (n : ℕ) (is : IsReady m p (suc n)) (at : IsFirst m p n)
      → IsBetween stands (behind m p at.space at.here.user at.here.ctx)
  behind-between m p n is at =
      let x : Machine U C = next_event m in
      let y : Machine U C = behind m p at.space at.here.user at.here.ctx in
      let done = rests-gone f stands keep m.workload m.event (m.event + 1) 1 x p at.space at.rest at.here (omega arith) (omega arith) (omega (arith, is.event))
      (first-goes (setting m.workload at.space.0 at.here.def) n (f.local at.here.user at.here.ctx) at.goes) in
      between-rests f stands keep m.workload (m.event + 1) y (subst (λ (i : ℕ). Rests f stands keep m.workload i (m.event + 1) y) (omega arith) done)

  ready-more : (m : Machine U C) (p : ProcNo) (n : ℕ) (is : IsReady m p (suc n)) (at : IsFirst m p n)
      → IsReady (behind m p at.space at.here.user at.here.ctx) p n
  ready-more m p n is at =
      let x : Machine U C = next_event m in
      let s = at.space in
      let u = at.here.user in
      let c = at.here.ctx in
      let r : Gone U C = gone_first m p s u c in
      let y : Machine U C = behind m p s u c in
      let one : m.event + suc n ≡ m.event + 1 + n = omega arith in
      record {
        between = behind-between m p n is at;
        go = record {
          space = s;
          def = at.here.def;
          owner = at.here.owner;
          is_def = at.here.is_def;
          goes = subst (λ z. StaysLocal (setting m.workload s.0 at.here.def) n z) (sym (behind-local m p n is at))
              (others-go (setting m.workload s.0 at.here.def) n (f.local u c) at.goes);
        };
        event = omega (arith, is.event);
        low = is.low;
        whole = λ k some below.
            let e : m.event + (k + 1) ≡ m.event + 1 + k = omega arith in
            subst (λ (i : ℕ). (not (m.workload.slice == 0) && (i % m.workload.slice == 0)) ≡ false) e (is.whole (k + 1) (omega arith) (omega (arith, below)));
        can = record {
          none_due = subst (λ (i : ℕ). due_of i m.kernel.under_way ≡ None) one is.can.none_due;
          steps = λ t v d owner user ctx.
              let same_space : s ≡ t = same_Some s t (sym at.here.owner ∙ owner) in
              let has : slice_get (slice_set x.users s.0 r.user) s.0 ≡ Some r.user = get-set x.users s.0 r.user u at.here.is_user in
              let same_user : r.user ≡ v = same_Some r.user v
              (sym has ∙ ap (λ (z : SpaceNo). slice_get (slice_set x.users s.0 r.user) z.0) same_space ∙ user) in
              let runs : get_or (slice_set x.contexts p.0 (Some r.ctx)) p.0 None ≡ Some r.ctx = read-set x.contexts p.0 r.ctx c at.here.is_ctx in
              let same_ctx : r.ctx ≡ d = same_Some r.ctx d (sym runs ∙ ctx) in
              subst (λ (z : U). AreSteps f n z d) same_user (subst (λ (z : C). AreSteps f n r.user z) same_ctx ((first-steps m p n is at).2 (seen_on x p s)));
        };
      }

  -- ALL OF THEM
  abbrev turns : ProcNo → ℕ → List Move
  turns p n = replicate n (turn p)

  can-turn : (m : Machine U C) (p : ProcNo) (n : ℕ) → IsReady m p (suc n) → IsFirst m p n → CanTurn f m p
  can-turn m p n is at = record { within = sees-at f stands keep m.event (next_event m) p at.space at.rest.standing at.here; event = omega (arith, is.event) }

  turns-run : (n : ℕ) (m : Machine U C) (p : ProcNo) (fresh : ActNo) → IsReady m p (suc n) → m.kernel.acts fresh.0 ≡ None
      → IsRun f m (turns p (suc n)) (committed f p (suc n) m)
  turns-run zero m p fresh is unused =
      let at = first m p 0 is in
      (turned f p fresh m, (can-turn m p 0 is at, record { fresh = fresh; unused = unused; is = refl }), commit-one m p is at ∙ sym (turn-is m p 0 fresh is at))
  turns-run (suc n) m p fresh is unused =
      let at = first m p (suc n) is in
      let y : Machine U C = behind m p at.space at.here.user at.here.ctx in
      let others : IsRun f y (turns p (suc n)) (committed f p (suc (suc n)) m) =
      subst (λ (z : Machine U C). IsRun f y (turns p (suc n)) z) (sym (commit-goes m p n is at))
      (turns-run n y p fresh (ready-more m p (suc n) is at) unused) in (
        turned f p fresh m,
        (can-turn m p (suc n) is at, record { fresh = fresh; unused = unused; is = refl }),
        subst (λ (z : Machine U C). IsRun f z (turns p (suc n)) (committed f p (suc (suc n)) m)) (sym (turn-goes m p n fresh is at)) others,
      )

  run-turns : (n : ℕ) (m : Machine U C) (p : ProcNo) (after : Machine U C) → IsReady m p (suc n) → IsRun f m (turns p (suc n)) after
      → after ≡ committed f p (suc n) m
  run-turns zero m p after is run =
      let at = first m p 0 is in
      run.2 ∙ run.1.1.is ∙ turn-is m p 0 run.1.1.fresh is at ∙ sym (commit-one m p is at)
  run-turns (suc n) m p after is run =
      let at = first m p (suc n) is in
      let y : Machine U C = behind m p at.space at.here.user at.here.ctx in
      let others : IsRun f y (turns p (suc n)) after =
      subst (λ (z : Machine U C). IsRun f z (turns p (suc n)) after) (run.1.1.is ∙ turn-goes m p n run.1.1.fresh is at) run.2 in
      run-turns n y p after (ready-more m p (suc n) is at) others ∙ sym (commit-goes m p n is at)

  pub commits-run : (m : Machine U C) (p : ProcNo) (n : ℕ) (fresh : ActNo) → IsBetween stands m → CanCommit f m p n → CanStep f m p n
      → m.kernel.acts fresh.0 ≡ None
      → IsRun f m (replicate n (turn p)) (committed f p n m)
  commits-run m p zero fresh between can steps unused = refl
  commits-run m p (suc n) fresh between can steps unused = turns-run n m p fresh (ready m p (suc n) between can steps) unused

  pub runs-commit : (m : Machine U C) (p : ProcNo) (n : ℕ) (after : Machine U C) → IsBetween stands m → CanCommit f m p n → CanStep f m p n
      → IsRun f m (replicate n (turn p)) after
      → after ≡ committed f p n m
  runs-commit m p zero after between can steps run = run
  runs-commit m p (suc n) after between can steps run = run-turns n m p after (ready m p (suc n) between can steps) run

  pub committed-events : (m : Machine U C) (p : ProcNo) (n : ℕ) → IsBetween stands m → CanCommit f m p n → (committed f p n m).event ≡ m.event + n
  committed-events m p zero between can = absurd (let z = can.some in omega arith)
  committed-events m p (suc n) between can =
      (rests-committed f stands keep m p n between can.event (can-go f stands keep m.event (suc n) m p between.standing can.go)).event
