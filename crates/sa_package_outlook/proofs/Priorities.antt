-- The package with thread priorities looks at no number either, since FastThreads does not.
use Rattle.std.proofs.Common.{◌≡◌, ℕ, Bool, true, false, ◌&&◌, ◌||◌, not, cond, min, Option, Some, None, option_map, refl, sym, ap, subst, ◌∙◌, inl, inr}
use Rattle.sa_base.specs.declared.context.Seen.{Seen}
use Rattle.sa_base.specs.declared.context.Stopped.{Stopped}
use Rattle.sa_base.specs.declared.number.ThreadNo.{ThreadNo}
use Rattle.sa_base.specs.declared.record.Note.{Note}
use Rattle.sa_base.specs.declared.record.Note.TheVariants.{Add, Preempted, Blocked, Unblocked}
use Rattle.sa_spaces.specs.Space.{SpaceView}
use Rattle.sa_abstract.specs.Calls.{Stepped}
use Rattle.sa_abstract.specs.declared.answer.Step.{Step}
use Rattle.sa_package_model.specs.declared.context.Context.{Context}
use Rattle.sa_package_model.specs.declared.context.ContextState.{ContextState}
use Rattle.sa_package_model.specs.declared.context.ContextState.TheVariants.{Code, Work, Hint, Return, User, Look}
use Rattle.sa_package_model.specs.declared.package.Package.{Package}
use Rattle.sa_package_model.specs.Context.{carried_by, stands_idle, stands_inside, stands_between}
use Rattle.sa_package_model.specs.Rules.{settled}
use Rattle.sa_package_model.specs.Step as fast
use Rattle.sa_prio_model.specs.declared.context.PrioContext.{PrioContext}
use Rattle.sa_prio_model.specs.declared.pair.Outranked.{Outranked}
use Rattle.sa_prio_model.specs.Prio.{Prio, with_base, with_on, outranked, lowest, has_pair}
use Rattle.sa_prio_model.specs.Urge.{settles, came_out, marked, is_out}
use Rattle.sa_prio_model.specs.Step.{base_of, told, answered, left_on, goes, urged_by, urged, again, stepped}
use Rattle.sa_base.specs.declared.number.ProcNo.{ProcNo}
use Rattle.sa_outlook.specs.Nameless.{PlainStopped, NamelessNote, plain_held}
use Rattle.sa_outlook.specs.UserLevels.{at_event, SamePair, SameStep, SameNote}
use Rattle.sa_package_outlook.specs.Contexts.{patience_of, plain, plain_prio, IsMadeFor}
use Rattle.sa_package_outlook.specs.Laws.{PrioIgnoresNumbers}
use Rattle.sa_package_outlook.proofs.FastThreads.{same-or-look, by-state, bare, bare-same, state-same, looking, step-look, stepped-def, fast-ignores-numbers}

base-same : (def : Option SpaceView) (c d : PrioContext) → plain_prio def c ≡ plain_prio def d → plain def c.base ≡ plain def d.base
base-same def c d e = ap (λ (x : PrioContext). x.base) e

urge-same : (def : Option SpaceView) (c d : PrioContext) → plain_prio def c ≡ plain_prio def d → c.urge ≡ d.urge
urge-same def c d e = ap (λ (x : PrioContext). x.urge) e

rejoined : (def : Option SpaceView) (x y : Context) (a b : Bool) → plain def x ≡ plain def y → a ≡ b
    → plain_prio def (record { base = x; urge = a }) ≡ plain_prio def (record { base = y; urge = b })
rejoined def x y a b e f =
    ap {B = PrioContext} (λ (z : Context). record { base = z; urge = a }) e ∙ ap {B = PrioContext} (λ (t : Bool). record { base = plain def y; urge = t }) f

-- A NOTICE
base_stopped : Option (PlainStopped PrioContext) → Option (PlainStopped Context)
base_stopped None = None
base_stopped (Some x) = Some (record { ctx = x.ctx.base; thread = x.thread; idle = x.idle })

stopped-base : (def : Option SpaceView) (h : Option (Stopped PrioContext))
    → plain_held (λ (s : ℕ) (x : Context). plain def x) 0 (option_map base_of h) ≡ base_stopped (plain_held (λ (s : ℕ) (x : PrioContext). plain_prio def x) 0 h)
unfolding base_stopped
stopped-base def None = refl
stopped-base def (Some h) = refl

stopped-same : (def : Option SpaceView) (h i : Option (Stopped PrioContext))
    → plain_held (λ (s : ℕ) (x : PrioContext). plain_prio def x) 0 h ≡ plain_held (λ (s : ℕ) (x : PrioContext). plain_prio def x) 0 i
    → plain_held (λ (s : ℕ) (x : Context). plain def x) 0 (option_map base_of h) ≡ plain_held (λ (s : ℕ) (x : Context). plain def x) 0 (option_map base_of i)
stopped-same def h i e = stopped-base def h ∙ ap base_stopped e ∙ sym (stopped-base def i)

note-base : (def : Option SpaceView) (note other : Note) (h i : Option (Stopped PrioContext)) → SameNote plain_prio def note h other i
    → SameNote plain def note (option_map base_of h) other (option_map base_of i)
note-base def (Add p) (Add q) h i e = ap {B = NamelessNote Context} (λ (x : ProcNo). NamelessNote.added x) cc
note-base def (Blocked a) (Blocked b) h i e = refl
note-base def (Preempted a) (Preempted b) h i e =
    ap {B = NamelessNote Context} (λ (x : Option (PlainStopped Context)). NamelessNote.preempted x) (stopped-same def h i (cc))
note-base def (Unblocked a) (Unblocked b) h i e =
    ap {B = NamelessNote Context} (λ (x : Option (PlainStopped Context)). NamelessNote.unblocked x) (stopped-same def h i (cc))
note-base def _ _ h i e = absurd cc

told-same : (def : Option SpaceView) (v : Prio) (c d : PrioContext) (note other : Note) (h i : Option (Stopped PrioContext)) → IsMadeFor def v
    → plain_prio def c ≡ plain_prio def d → SameNote plain_prio def note h other i
    → SamePair plain_prio IsMadeFor def (told v c note h) (told v d other i)
told-same def v c d note other h i made e same =
    let r = fast-ignores-numbers.told def v.base c.base d.base note other (option_map base_of h) (option_map base_of i) made (base-same def c d e)
    (note-base def note other h i same) in record {
      user = ap (λ (u : Package). with_base v u) r.user;
      ctx = rejoined def _ _ c.urge d.urge r.ctx (urge-same def c d e);
      made = r.made;
    }

-- AN ANSWER
settles-same : (v : Prio) (seen : Seen) (def : Option SpaceView) (c d : Context) → plain def c ≡ plain def d → settles v seen c ≡ settles v seen d
settles-same v seen def c d e =
    ap (λ (t : Option ThreadNo). out (settled v.base seen (bare c) t))
    (by-state carried_by (λ i j. refl) (patience_of def) c.state d.state (state-same def c d e))
    ∙ ap (λ (x : Context). out (settled v.base seen x (carried_by d.state))) (bare-same def c d e)
  where
    out : Context → PrioContext
    out x = marked v seen (is_out x.state) x

answered-same : (def : Option SpaceView) (v : Prio) (seen : Seen) (e : ℕ) (c d : PrioContext) → IsMadeFor def v → plain_prio def c ≡ plain_prio def d
    → SamePair plain_prio IsMadeFor def (answered v seen c) (answered v (at_event e seen) d)
answered-same def v seen e c d made same =
    let b = base-same def c d same in
    let tests : c.urge || stands_between c.base.state ≡ d.urge || stands_between d.base.state =
    ap (λ (t : Bool). t || stands_between c.base.state) (urge-same def c d same)
    ∙ ap (λ (t : Bool). d.urge || t) (by-state stands_between (λ i j. refl) (patience_of def) c.base.state d.base.state (state-same def c.base d.base b)) in
    record {
      user = refl;
      ctx = ap (λ (t : Bool). plain_prio def (cond t (settles v seen c.base) c)) tests ∙ go (d.urge || stands_between d.base.state);
      made = made;
    }
  where
    go : (t : Bool) → plain_prio def (cond t (settles v seen c.base) c) ≡ plain_prio def (cond t (settles v seen d.base) d)
    go true = ap (λ (x : PrioContext). plain_prio def x) (settles-same v seen def c.base d.base (base-same def c d same))
    go false = same

-- A STEP
urged_by-def : (v : Prio) (seen : Seen) (c : Context) (own : Option ℕ) (other : Option Outranked) → (urged_by v seen c own other).user.base.def ≡ v.base.def
urged_by-def v seen c None None = stepped-def v.base seen (settled v.base seen c (carried_by c.state))
urged_by-def v seen c _ _ = refl

served-def : (v : Prio) (seen : Seen) (x : PrioContext) (b : Bool) → (cond b (urged v seen x.base) (goes v seen x.base)).user.base.def ≡ v.base.def
served-def v seen x true = urged_by-def v seen x.base (outranked v seen seen.proc) (lowest v seen)
served-def v seen x false = stepped-def v.base seen x.base

prio-def : (v : Prio) (seen : Seen) (c : PrioContext) → (stepped v seen c).user.base.def ≡ v.base.def
prio-def v seen c = let x = again v seen c in served-def v seen x x.urge

module _ (def : Option SpaceView) (v : Prio) (seen : Seen) (made : IsMadeFor def v) (c : Context) (i j : ℕ) (same : min i (patience_of def) ≡ min j (patience_of def)) where
  abbrev Same : Stepped Prio PrioContext → Stepped Prio PrioContext → Type 0
  Same x y = SameStep plain_prio IsMadeFor def x y

  look-plain : plain def (looking c i) ≡ plain def (looking c j)
  look-plain = ap (λ (n : ℕ). looking c n) same

  goes-same : Same (goes v seen (looking c i)) (goes v seen (looking c j))
  goes-same =
      let r = step-look def v.base seen c i j made same in
      let s = fast.stepped v.base seen (looking c i) in
      let t = fast.stepped v.base seen (looking c j) in
      let carried = by-state carried_by (λ a b. refl) (patience_of def) s.ctx.state t.ctx.state (state-same def s.ctx t.ctx r.ctx) in
      let came = by-state (came_out (Look 0)) (λ a b. refl) (patience_of def) s.ctx.state t.ctx.state (state-same def s.ctx t.ctx r.ctx) in
      let left : left_on s.answer s.ctx.state ≡ left_on t.answer t.ctx.state =
      ap (λ (a : Step). left_on a s.ctx.state) r.answer ∙ lefts t.answer s.ctx.state t.ctx.state carried in
      let user : with_on (with_base v s.user) seen.proc (left_on s.answer s.ctx.state) ≡ with_on (with_base v t.user) seen.proc (left_on t.answer t.ctx.state) =
      ap (λ (u : Package). with_on (with_base v u) seen.proc (left_on s.answer s.ctx.state)) r.user
      ∙ ap (λ (x : Option ThreadNo). with_on (with_base v t.user) seen.proc x) left in
      record {
        user = user;
        ctx = rejoined def s.ctx t.ctx _ _ r.ctx
            (outs i s.ctx.state (with_on (with_base v s.user) seen.proc (left_on s.answer s.ctx.state))
            ∙ ap (λ (b : Bool). b && has_pair (with_on (with_base v s.user) seen.proc (left_on s.answer s.ctx.state)) seen) came
            ∙ ap (λ (w : Prio). came_out (Look 0) t.ctx.state && has_pair w seen) user
            ∙ sym (outs j t.ctx.state (with_on (with_base v t.user) seen.proc (left_on t.answer t.ctx.state))));
        says = r.says;
        answer = r.answer;
        made = r.made;
      }
    where
      lefts : (a : Step) (s t : ContextState) → carried_by s ≡ carried_by t → left_on a s ≡ left_on a t
      lefts Step.Did s t h = h
      lefts (Step.Block n p) s t h = refl
      lefts (Step.More n) s t h = h
      lefts Step.Idle s t h = h
      lefts Step.GiveBack s t h = h
      lefts (Step.InterruptOwn q) s t h = h

      outs : (n : ℕ) (s : ContextState) (w : Prio) → came_out (Look n) s && has_pair w seen ≡ came_out (Look 0) s && has_pair w seen
      outs n (Code f) w = refl
      outs n (Work t) w = refl
      outs n (Hint t) w = refl
      outs n Return w = refl
      outs n (User t) w = refl
      outs n (Look m) w = refl

  urged-same : (own : Option ℕ) (other : Option Outranked) → Same (urged_by v seen (looking c i) own other) (urged_by v seen (looking c j) own other)
  urged-same (Some own) other = record { user = refl; ctx = refl; says = refl; answer = refl; made = made }
  urged-same None (Some other) = record { user = refl; ctx = rejoined def (looking c i) (looking c j) true true look-plain refl; says = refl; answer = refl; made = made }
  urged-same None None = record {
    user = refl;
    ctx = refl;
    says = refl;
    answer = refl;
    made = made ∙ ap (λ (d : SpaceView). Some d) (sym (stepped-def v.base seen (settled v.base seen c None)));
  }

  step-same : (b : Bool) → Same (stepped v seen (record { base = looking c i; urge = b })) (stepped v seen (record { base = looking c j; urge = b }))
  step-same true = urged-same (outranked v seen seen.proc) (lowest v seen)
  step-same false = goes-same

stepped-same : (def : Option SpaceView) (v : Prio) (seen : Seen) (e : ℕ) (c d : PrioContext) → IsMadeFor def v → plain_prio def c ≡ plain_prio def d
    → SameStep plain_prio IsMadeFor def (stepped v seen c) (stepped v (at_event e seen) d)
stepped-same def v seen e c d made same = elim (same-or-look def c.base d.base (base-same def c d same)) [
  | inl h ↦
      let whole : c ≡ d =
      ap {B = PrioContext} (λ (x : Context). record { base = x; urge = c.urge }) h
      ∙ ap {B = PrioContext} (λ (t : Bool). record { base = d.base; urge = t }) (urge-same def c d same) in
      record {
        user = ap (λ (x : PrioContext). (stepped v seen x).user) whole;
        ctx = ap (λ (x : PrioContext). plain_prio def (stepped v seen x).ctx) whole;
        says = ap (λ (x : PrioContext). (stepped v seen x).says) whole;
        answer = ap (λ (x : PrioContext). (stepped v seen x).answer) whole;
        made = made ∙ ap (λ (x : SpaceView). Some x) (sym (prio-def v seen c));
      }
  | inr h ↦
      let one : looking c.base h.looks ≡ c.base = ap (λ (s : ContextState). record c.base { state = s }) (sym h.is_c) in
      let two : looking c.base h.others ≡ d.base =
      ap (λ (x : Context). looking x h.others) h.rest ∙ ap (λ (s : ContextState). record d.base { state = s }) (sym h.is_d) in
      let to_c : record { base = looking c.base h.looks; urge = c.urge } ≡ c = ap {B = PrioContext} (λ (x : Context). record { base = x; urge = c.urge }) one in
      let to_d : record { base = looking c.base h.others; urge = c.urge } ≡ d =
      ap {B = PrioContext} (λ (x : Context). record { base = x; urge = c.urge }) two
      ∙ ap {B = PrioContext} (λ (t : Bool). record { base = d.base; urge = t }) (urge-same def c d same) in
      subst (λ (x : PrioContext). SameStep plain_prio IsMadeFor def (stepped v seen x) (stepped v seen d)) to_c
      (subst (λ (x : PrioContext). SameStep plain_prio IsMadeFor def (stepped v seen (record { base = looking c.base h.looks; urge = c.urge }))
      (stepped v seen x)) to_d
      (step-same def v seen made c.base h.looks h.others h.same c.urge))
]

pub prio-ignores-numbers : PrioIgnoresNumbers
prio-ignores-numbers = record {
  started = λ s. refl;
  begun = λ def v seen e made. record { user = refl; ctx = refl; made = made };
  told = told-same;
  answered = answered-same;
  stepped = stepped-same;
  thread = λ def v c d made same. by-state carried_by (λ i j. refl) (patience_of def) c.base.state d.base.state
      (state-same def c.base d.base (base-same def c d same));
  idle = λ def v c d made same.
      ap (λ (b : Bool). b && not c.urge)
      (by-state stands_idle (λ i j. refl) (patience_of def) c.base.state d.base.state (state-same def c.base d.base (base-same def c d same)))
      ∙ ap (λ (b : Bool). stands_idle d.base.state && not b) (urge-same def c d same);
  owes = λ def v c d made same.
      ap (λ (b : Bool). b || c.urge) (by-state stands_inside (λ i j. refl) (patience_of def) c.base.state d.base.state
      (state-same def c.base d.base (base-same def c d same)))
      ∙ ap (λ (b : Bool). stands_inside d.base.state || b) (urge-same def c d same);
}
