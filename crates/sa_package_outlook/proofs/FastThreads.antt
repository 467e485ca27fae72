-- FastThreads looks at no number of an activation or an event, and at an idle count no further than the patience.
use Rattle.std.proofs.Common.{◌≡◌, ℕ, ◌+◌, ◌⊎◌, Bool, true, false, ◌&&◌, cond, leb, min, Option, Some, None, List, refl, sym, ap, subst, ◌∙◌, inl, inr, arith}
use Rattle.std.proofs.lemmas.Bool.{le-leb, lt-leb, leb-true, leb-false}
use Rattle.std.proofs.lemmas.Option.{same_Some}
use Rattle.sa_base.specs.declared.number.ThreadNo.{ThreadNo}
use Rattle.sa_base.specs.declared.context.Seen.{Seen}
use Rattle.sa_base.specs.declared.context.Stopped.{Stopped}
use Rattle.sa_base.specs.declared.record.Note.{Note}
use Rattle.sa_base.specs.declared.record.Note.TheVariants.{Add, Preempted, Blocked, Unblocked}
use Rattle.sa_base.specs.declared.record.Record.{Record}
use Rattle.sa_instr.specs.declared.limits.TheConstants.{MAX_PATIENCE}
use Rattle.sa_spaces.specs.Space.{SpaceView}
use Rattle.sa_abstract.specs.Calls.{Stepped}
use Rattle.sa_lists.specs.ReadyView.{sought}
use Rattle.sa_code.specs.declared.code.Op.{Op}
use Rattle.sa_code.specs.declared.state.Frame.{Frame}
use Rattle.sa_code.specs.declared.state.MicroDone.{MicroDone}
use Rattle.sa_code.specs.declared.state.MicroDone.TheVariants as micros
use Rattle.sa_code.specs.Micro.{Micro, micro}
use Rattle.sa_fast.specs.declared.instruction.Ran.{Ran}
use Rattle.sa_fast.specs.declared.instruction.Ran.TheVariants as rans
use Rattle.sa_fast.specs.Instruction.{run, run_says}
use Rattle.sa_fast.specs.Hints.{idle_owed}
use Rattle.sa_package_model.specs.declared.context.Context.{Context}
use Rattle.sa_package_model.specs.declared.context.ContextState.{ContextState}
use Rattle.sa_package_model.specs.declared.context.ContextState.TheVariants.{Code, Work, Hint, Return, User, Look}
use Rattle.sa_package_model.specs.declared.package.Package.{Package}
use Rattle.sa_package_model.specs.Context.{carried_by, stands_idle, stands_inside, stands_between}
use Rattle.sa_package_model.specs.Rules.{Pair, with_shared, owed, settled, took_over, coded_by, pushing_by, push_of, own_list, used_by, pop_of, popping_by, is_idle, looked_by, load}
use Rattle.sa_package_model.specs.Step.{told_of, told, answered, worked, hinted, stepped_at, resettled, stepped}
use Rattle.sa_outlook.specs.Nameless.{plain_held, PlainStopped}
use Rattle.sa_outlook.specs.UserLevels.{at_event, SamePair, SameStep, SameNote}
use Rattle.sa_package_outlook.specs.Contexts.{patience_of, plain_state, plain, IsMade}
use Rattle.sa_package_outlook.specs.Laws.{FastIgnoresNumbers}

-- contexts that are plainly the same are the same, or they look, and have looked as often, up to the patience
pub record BothLook (n : ℕ) (c d : Context) : Type 0 where
  pub looks : ℕ
  pub others : ℕ
  pub is_c : c.state ≡ Look looks
  pub is_d : d.state ≡ Look others
  pub same : min looks n ≡ min others n
  pub rest : record c { state = Look 0 } ≡ record d { state = Look 0 }

pub states : (n : ℕ) (s t : ContextState) → plain_state n s ≡ plain_state n t
    → (s ≡ t) ⊎ ((i : ℕ) × (j : ℕ) × (s ≡ Look i) × (t ≡ Look j) × (min i n ≡ min j n))
states n (Look i) (Look j) e = inr (i, j, refl, refl, cc)
states n (Look i) (Code f) e = absurd cc
states n (Look i) (Work t) e = absurd cc
states n (Look i) (Hint t) e = absurd cc
states n (Look i) Return e = absurd cc
states n (Look i) (User t) e = absurd cc
states n (Code f) (Look j) e = absurd cc
states n (Work s) (Look j) e = absurd cc
states n (Hint s) (Look j) e = absurd cc
states n Return (Look j) e = absurd cc
states n (User s) (Look j) e = absurd cc
states n _ _ e = inl e

pub same-or-look : (def : Option SpaceView) (c d : Context) → plain def c ≡ plain def d → (c ≡ d) ⊎ BothLook (patience_of def) c d
same-or-look def c d e =
    let rest : record c { state = Look 0 } ≡ record d { state = Look 0 } = ap (λ (x : Context). record x { state = Look 0 }) e in
    elim (states (patience_of def) c.state d.state (ap (λ (x : Context). x.state) e)) [
      | inl h ↦ inl (joined c d rest h)
      | inr h ↦ inr (record { looks = h.0; others = h.1; is_c = h.2; is_d = h.3; same = h.4; rest = rest })
    ]
  where
    joined : (x y : Context) → record x { state = Look 0 } ≡ record y { state = Look 0 } → x.state ≡ y.state → x ≡ y
    joined x y r s =
        ap (λ (z : Context). record z { state = x.state }) r ∙ ap (λ (t : ContextState). record y { state = t }) s

-- the package's definition stays
module _ (u : Package) where
  coded-def : (seen : Seen) (c : Context) (f : Frame) (op : Option Op) (m : Micro) (done : MicroDone) → (coded_by u seen c f op m done).user.def ≡ u.def
  coded-def seen c f op m micros.Did = refl
  coded-def seen c f op m _ = refl

  pushing-def : (c : Context) (first : ThreadNo) (m : Micro) (done : MicroDone) → (pushing_by u c first m done).user.def ≡ u.def
  pushing-def c first m micros.Did = refl
  pushing-def c first m _ = refl

  popping-def : (c : Context) (m : Micro) (done : MicroDone) → (popping_by u c m done).user.def ≡ u.def
  popping-def c m micros.Did = refl
  popping-def c m _ = refl

  worked-def : (seen : Seen) (c : Context) (f : Option Frame) (t : Option ThreadNo) → (worked u seen c f t).user.def ≡ u.def
  worked-def seen c None (Some first) =
      let m = micro u.shared.state (push_of seen.proc (own_list u seen.proc) first (carried_by c.state)) seen.pages in pushing-def c first m m.done
  worked-def seen c _ _ = refl

  hinted-def : (c : Context) (n : Option ℕ) → (hinted u c n).user.def ≡ u.def
  hinted-def c None = refl
  hinted-def c (Some n) = refl

  looked-def : (seen : Seen) (c : Context) (looks : ℕ) (idle : Bool) (l : Option ℕ) → (looked_by u seen c looks idle l).user.def ≡ u.def
  looked-def seen c looks idle (Some l) = let m = micro u.shared.state (pop_of seen.proc l) seen.pages in popping-def c m m.done
  looked-def seen c looks true None = refl
  looked-def seen c looks false None = refl

used-def : (u : Package) (seen : Seen) (c : Context) (t : ThreadNo) (r : Ran) (says : List Record) → (used_by u seen c t r says).user.def ≡ u.def
used-def u seen c t rans.Goes says = refl
used-def u seen c t _ says = refl

stepped_at-def : (u : Package) (seen : Seen) (c : Context) (s : ContextState) → (stepped_at u seen c s).user.def ≡ u.def
stepped_at-def u seen c (Code f) = let m = micro u.shared.state f seen.pages in coded-def u seen c f _ m m.done
stepped_at-def u seen c (Work t) = worked-def u seen c _ c.work
stepped_at-def u seen c (Hint t) = hinted-def u c (owed u seen)
stepped_at-def u seen c Return = refl
stepped_at-def u seen c (User t) =
    let o = run u.def u.fetch seen.pages u.shared c.work t in
    used-def (with_shared u o.shared) seen (record c { work = o.work }) t o.answer (run_says u.def seen.pages u.shared t)
stepped_at-def u seen c (Look looks) = looked-def u seen c looks (is_idle u seen looks) (sought u.shared.state.lists (own_list u seen.proc).0)

pub stepped-def : (u : Package) (seen : Seen) (c : Context) → (stepped u seen c).user.def ≡ u.def
stepped-def u seen c = let d = resettled u seen c c.state in stepped_at-def u seen d d.state

told_of-def : (u : Package) (c : Context) (held : Option (Stopped Context)) → (told_of u c held).user.def ≡ u.def
told_of-def u c None = refl
told_of-def u c (Some h) = refl

made-still : (def : Option SpaceView) (u v : Package) → v.def ≡ u.def → IsMade def u → IsMade def v
made-still def u v same made = made ∙ ap (λ (x : SpaceView). Some x) (sym same)

-- CONTEXTS THAT ARE PLAINLY THE SAME

abbrev pub bare : Context → Context
bare c = record c { state = Look 0 }

abbrev pub looking : Context → ℕ → Context
looking c i = record c { state = Look i }

pub bare-same : (def : Option SpaceView) (c d : Context) → plain def c ≡ plain def d → bare c ≡ bare d
bare-same def c d e = ap (λ (x : Context). bare x) e

pub state-same : (def : Option SpaceView) (c d : Context) → plain def c ≡ plain def d
    → plain_state (patience_of def) c.state ≡ plain_state (patience_of def) d.state
state-same def c d e = ap (λ (x : Context). x.state) e

-- what does not read the count
pub by-state : {A : Type 0} (g : ContextState → A) → ((i j : ℕ) → g (Look i) ≡ g (Look j)) → (n : ℕ) (s t : ContextState)
    → plain_state n s ≡ plain_state n t → g s ≡ g t
by-state g blind n s t e = elim (states n s t e) [
  | inl h ↦ ap g h
  | inr h ↦ ap g h.2 ∙ blind h.0 h.1 ∙ sym (ap g h.3)
]

-- A TAKE-OVER
took-theirs : (u : Package) (c x y : Context) (def : Option SpaceView) → plain def x ≡ plain def y → took_over u c x ≡ took_over u c y
took-theirs u c x y def e = elim (same-or-look def x y e) [
  | inl h ↦ ap (took_over u c) h
  | inr h ↦
      ap (λ (s : ContextState). took_over u c (record x { state = s })) h.is_c
      ∙ ap (took_over u c) h.rest
      ∙ sym (ap (λ (s : ContextState). took_over u c (record y { state = s })) h.is_d)
]

took-mine : (u : Package) (c d y : Context) (def : Option SpaceView) → plain def c ≡ plain def d
    → ((took_over u c y).user ≡ (took_over u d y).user) × (plain def (took_over u c y).ctx ≡ plain def (took_over u d y).ctx)
took-mine u c d y def e =
    let b = bare-same def c d e in (
      ap (λ (x : Context). (took_over u x y).user) b,
      ap (λ (x : Context). record (took_over u x y).ctx { state = plain_state (patience_of def) c.state }) b
          ∙ ap (λ (s : ContextState). record (took_over u (bare d) y).ctx { state = s }) (state-same def c d e),
    )

told_of-same : (u : Package) (c d : Context) (held i : Option (Stopped Context)) (def : Option SpaceView) → plain def c ≡ plain def d
    → plain_held (λ (s : ℕ) (x : Context). plain def x) 0 held ≡ plain_held (λ (s : ℕ) (x : Context). plain def x) 0 i
    → ((told_of u c held).user ≡ (told_of u d i).user) × (plain def (told_of u c held).ctx ≡ plain def (told_of u d i).ctx)
told_of-same u c d None None def e same = (refl, e)
told_of-same u c d (Some h) (Some i) def e same =
    let z : plain def h.ctx ≡ plain def i.ctx = ap (λ (x : PlainStopped Context). x.ctx) (same_Some _ _ same) in
    let mine = took-mine u c d h.ctx def e in
    let theirs = took-theirs u d h.ctx i.ctx def z in
    (mine.0 ∙ ap (λ (p : Pair). p.user) theirs, mine.1 ∙ ap (λ (p : Pair). plain def p.ctx) theirs)
told_of-same u c d _ _ def e same = absurd cc

told-same : (def : Option SpaceView) (u : Package) (c d : Context) (note other : Note) (held i : Option (Stopped Context)) → IsMade def u
    → plain def c ≡ plain def d
    → SameNote plain def note held other i → SamePair plain IsMade def (told u c note held) (told u d other i)
told-same def u c d (Add p) (Add q) held i made e same = record { user = refl; ctx = e; made = made }
told-same def u c d (Blocked a) (Blocked b) held i made e same = record { user = refl; ctx = e; made = made }
told-same def u c d (Preempted a) (Preempted b) held i made e same =
    let z = told_of-same u c d held i def e (cc) in
    record { user = z.0; ctx = z.1; made = made-still def u (told_of u c held).user (told_of-def u c held) made }
told-same def u c d (Unblocked a) (Unblocked b) held i made e same =
    let z = told_of-same u c d held i def e (cc) in
    record { user = z.0; ctx = z.1; made = made-still def u (told_of u c held).user (told_of-def u c held) made }
told-same def u c d _ _ held i made e same = absurd cc

-- AN ANSWER
answered-look : (u : Package) (seen : Seen) (c : Context) (i : ℕ) → c.state ≡ Look i → answered u seen c ≡ (u, c)
answered-look u seen c i is = ap (λ (b : Bool). (u, cond b (settled u seen c (carried_by c.state)) c)) (ap stands_between is)

answered-same : (def : Option SpaceView) (u : Package) (seen : Seen) (e : ℕ) (c d : Context) → IsMade def u → plain def c ≡ plain def d
    → SamePair plain IsMade def (answered u seen c) (answered u (at_event e seen) d)
answered-same def u seen e c d made same = elim (same-or-look def c d same) [
  | inl h ↦ record { user = refl; ctx = ap (λ (x : Context). plain def (answered u seen x).1) h; made = made }
  | inr h ↦ record {
    user = refl;
    ctx = ap (λ (x : Package × Context). plain def x.1) (answered-look u seen c h.looks h.is_c) ∙ same
        ∙ sym (ap (λ (x : Package × Context). plain def x.1) (answered-look u seen d h.others h.is_d));
    made = made;
  }
]

-- A LOOK
module _ (def : Option SpaceView) (u : Package) (seen : Seen) (c : Context) (i j : ℕ) where
  abbrev Same : Stepped Package Context → Stepped Package Context → Type 0
  Same x y = SameStep plain IsMade def x y

  plain-look : min i (patience_of def) ≡ min j (patience_of def) → plain def (looking c i) ≡ plain def (looking c j)
  plain-look same = ap (λ (n : ℕ). looking c n) same

  popping-same : (m : Micro) (done : MicroDone) → IsMade def u → min i (patience_of def) ≡ min j (patience_of def)
      → Same (popping_by u (looking c i) m done) (popping_by u (looking c j) m done)
  popping-same m micros.Did made same = record { user = refl; ctx = refl; says = refl; answer = refl; made = made }
  popping-same m _ made same = record { user = refl; ctx = plain-look same; says = refl; answer = refl; made = made }

  looked-same : (idle : Bool) (l : Option ℕ) → IsMade def u → min i (patience_of def) ≡ min j (patience_of def)
      → Same (looked_by u seen (looking c i) i idle l) (looked_by u seen (looking c j) j idle l)
  looked-same idle (Some l) made same = let m = micro u.shared.state (pop_of seen.proc l) seen.pages in popping-same m m.done made same
  looked-same true None made same = record { user = refl; ctx = plain-look same; says = refl; answer = refl; made = made }
  looked-same false None made same =
      let n : ℕ = patience_of def in
      let more : min (min (i + 1) MAX_PATIENCE) n ≡ min (min (j + 1) MAX_PATIENCE) n = later n same in
      record { user = refl; ctx = ap (λ (k : ℕ). looking c k) more; says = refl; answer = refl; made = made }
    where
      later : (n : ℕ) → min i n ≡ min j n → min (min (i + 1) 1000) n ≡ min (min (j + 1) 1000) n
      later n h = omega arith

  patience-same : (n : ℕ) → min i n ≡ min j n → leb n i ≡ leb n j
  patience-same n h = go (leb n i) refl
    where
      go : (t : Bool) → leb n i ≡ t → leb n i ≡ leb n j
      go true is = let z = leb-true n i is in is ∙ sym (le-leb n j (omega arith))
      go false is = let z = leb-false n i is in is ∙ sym (lt-leb n j (omega arith))

  pub step-look : IsMade def u → min i (patience_of def) ≡ min j (patience_of def) → Same (stepped u seen (looking c i)) (stepped u seen (looking c j))
  step-look made same =
      let l = sought u.shared.state.lists (own_list u seen.proc).0 in
      let n : patience_of def ≡ u.def.patience = ap patience_of made in
      let tests : is_idle u seen i ≡ is_idle u seen j =
      ap (λ (b : Bool). b && idle_owed seen.demand (load u))
      (patience-same u.def.patience (subst (λ (k : ℕ). min i k ≡ min j k) n same)) in
      subst (λ (b : Bool). Same (stepped u seen (looking c i)) (looked_by u seen (looking c j) j b l)) tests (looked-same (is_idle u seen i) l made same)

stepped-same : (def : Option SpaceView) (u : Package) (seen : Seen) (e : ℕ) (c d : Context) → IsMade def u → plain def c ≡ plain def d
    → SameStep plain IsMade def (stepped u seen c) (stepped u (at_event e seen) d)
stepped-same def u seen e c d made same = elim (same-or-look def c d same) [
  | inl h ↦ record {
    user = ap (λ (x : Context). (stepped u seen x).user) h;
    ctx = ap (λ (x : Context). plain def (stepped u seen x).ctx) h;
    says = ap (λ (x : Context). (stepped u seen x).says) h;
    answer = ap (λ (x : Context). (stepped u seen x).answer) h;
    made = made-still def u (stepped u seen c).user (stepped-def u seen c) made;
  }
  | inr h ↦
      let one : looking c h.looks ≡ c = ap (λ (s : ContextState). record c { state = s }) (sym h.is_c) in
      let two : looking c h.others ≡ d = ap (λ (x : Context). looking x h.others) h.rest ∙ ap (λ (s : ContextState). record d { state = s }) (sym h.is_d) in
      subst (λ (x : Context). SameStep plain IsMade def (stepped u seen x) (stepped u seen d)) one
      (subst (λ (x : Context). SameStep plain IsMade def (stepped u seen (looking c h.looks)) (stepped u seen x)) two
      (step-look def u seen c h.looks h.others made h.same))
]

pub fast-ignores-numbers : FastIgnoresNumbers
fast-ignores-numbers = record {
  started = λ s. refl;
  begun = λ def u seen e made. record { user = refl; ctx = refl; made = made };
  told = told-same;
  answered = answered-same;
  stepped = stepped-same;
  thread = λ def u c d made same. by-state carried_by (λ i j. refl) (patience_of def) c.state d.state (state-same def c d same);
  idle = λ def u c d made same. by-state stands_idle (λ i j. refl) (patience_of def) c.state d.state (state-same def c d same);
  owes = λ def u c d made same. by-state stands_inside (λ i j. refl) (patience_of def) c.state d.state (state-same def c d same);
}
