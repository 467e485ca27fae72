-- The slices of one kind of a processor lie in those of an upper kind.
use Rattle.std.proofs.Common.{◌≡◌, ℕ, ◌+◌, ◌<◌, ◌≤◌, ◌&&◌, Bool, true, false, List, [], ◌∷◌, ◌++◌, Option, Some, None, refl, sym, subst, ◌∙◌, arith}
use Rattle.std.specs.Prelude.{All, Contains, is_some, max, nat_lt, cond}
use Rattle.std.proofs.lemmas.Bool.{ltb-true, lt-ltb, eqb-true, eq-eqb, and_parts, and_from}
use Rattle.std.proofs.lemmas.List.Elements.{All-nil, All-cons, All-append, All-weaker, Contains-append_left, Contains-append_right}
use Rattle.sa_base.specs.declared.number.ActNo.{ActNo}
use Rattle.sa_base.specs.declared.number.ProcNo.{ProcNo}
use Rattle.sa_base.specs.declared.number.SpaceNo.{SpaceNo}
use Rattle.sa_base.specs.declared.record.Item.{Item}
use Rattle.sa_lemmas.proofs.Membership.{contains-head}
use Rattle.sa_shapes.specs.declared.look.Look.TheVariants.{Unowned}
use Rattle.sa_shapes.specs.Look.{owner, same_look}
use Rattle.sa_trace_events.specs.declared.track.Level.{Level}
use Rattle.sa_trace_events.specs.declared.track.Level.TheVariants.{Owner, Activation, Work}
use Rattle.sa_trace_events.specs.declared.track.Track.{Track}
use Rattle.sa_trace_events.specs.declared.track.Track.TheVariants.{Processor}
use Rattle.sa_trace_events.specs.declared.state.Context.{Context}
use Rattle.sa_trace_events.specs.declared.slices.Going.{Going}
use Rattle.sa_trace_events.specs.declared.slices.Slice.{Slice}
use Rattle.sa_trace_events.specs.declared.slices.Span.{Span}
use Rattle.sa_trace_events.specs.declared.slices.State.{State}
use Rattle.sa_trace_events.specs.declared.slices.State.TheVariants as state
use Rattle.sa_trace_events.specs.State.{context_after, same_space, same_act, same_context}
use Rattle.sa_trace_events.specs.Slices.{is_work, shown_context, since, going_by, closed, closed_unless, slices_from, slices}
use Rattle.sa_trace_events.specs.Laws.{LiesIn, in_activation}
use Rattle.sa_trace_events.proofs.Itself.{space-itself, act-itself}

-- a slice of a processor that goes on
abbrev going : ℕ → ℕ → Context → Context → ℕ → Going
going from clock a x first = record { from = from; clock = clock; shown = state.Context a; state = state.Context x; first = first }

abbrev slice_of : Track → ℕ → ℕ → Context → ℕ → ℕ → Slice
slice_of t from to a first last = record { track = t; from = from; to = to; shown = state.Context a; first = first; last = last }

lies-left : (xs ys : List Slice) (s : Slice) → LiesIn xs s → LiesIn (xs ++ ys) s
lies-left xs ys s l = record { slice = l.slice; there = Contains-append_left xs ys l.slice l.there; from = l.from; to = l.to }

lies-right : (xs ys : List Slice) (s : Slice) → LiesIn ys s → LiesIn (xs ++ ys) s
lies-right xs ys s l = record { slice = l.slice; there = Contains-append_right xs ys l.slice l.there; from = l.from; to = l.to }

module _ (p : ProcNo) (f c : Level) (Q : State → Type 0)
    (coarser : (a b : Context) → same_context f a b ≡ true → same_context c a b ≡ true)
    (joins : (a b d : Context) → same_context c a b ≡ true → same_context c b d ≡ true → same_context c a d ≡ true)
    (itself : (a : Context) → same_context c a a ≡ true)
    (shows : (a b : Context) → shown_context f b ≡ true → Q (state.Context b) → same_context c a b ≡ true → shown_context c a ≡ true) where
  abbrev Fine : Track
  Fine = Processor p f

  abbrev Coarse : Track
  Coarse = Processor p c

  -- the clock after an item
  abbrev At : ℕ → Item → ℕ
  At clock i = max clock (since Coarse i)

  -- the slices from an item on, where the track goes on to show the same after it, and where it does not
  abbrev From : Track → Bool → ℕ → Item → List Item → ℕ → ℕ → ℕ → Context → Context → ℕ → List Slice
  From t d end i is k from clock a x first =
      closed_unless d t (going from clock a x first) (At clock i) k
      ++ slices_from t end (going_by d (going from clock a x first) (state.Context (context_after p x i)) (At clock i) k) (k + 1) is

  -- a slice of which this is asked lies in one of these
  abbrev Inside : List Slice → Slice → Type 0
  Inside outer s = Q s.shown → LiesIn outer s

  -- a coarse slice that is shown and not empty
  closed-there : (from to last clock : ℕ) (a x : Context) (first : ℕ) → shown_context c a ≡ true → from < to
      → Contains (closed Coarse (going from clock a x first) to last) (slice_of Coarse from to a first last)
  closed-there from to last clock a x first shown less =
      let both : (nat_lt from to && shown_context c a) ≡ true = and_from (nat_lt from to) (shown_context c a) (lt-ltb from to less) shown in
      subst (λ (b : Bool). Contains (cond b (slice_of Coarse from to a first last ∷ []) []) (slice_of Coarse from to a first last)) (sym both)
      (contains-head (slice_of Coarse from to a first last) [])

  -- a fine slice that is closed, if it is any, lies where it must
  closed-inside : (outer : List Slice) (from to last clock : ℕ) (b x : Context) (first : ℕ)
      → (from < to → shown_context f b ≡ true → Q (state.Context b) → LiesIn outer (slice_of Fine from to b first last))
      → All (Inside outer) (closed Fine (going from clock b x first) to last)
  closed-inside outer from to last clock b x first lies =
      (elim (nat_lt from to && shown_context f b) as (λ (v : Bool). (nat_lt from to && shown_context f b) ≡ v
      → All (Inside outer) (cond v (slice_of Fine from to b first last ∷ []) [])) [
        | true ↦ λ e. (let both = and_parts (nat_lt from to) (shown_context f b) e in
            All-cons (Inside outer) (slice_of Fine from to b first last) [] (λ asked. lies (ltb-true from to both.0) both.1 asked) (All-nil (Inside outer)))
        | false ↦ λ e. All-nil (Inside outer)
      ]) refl

  -- a coarse slice that is shown goes on, at least up to the event at which the track is
  goes-on : (end : ℕ) (items : List Item) (k from clock to : ℕ) (a x : Context) (first : ℕ) (s : Slice) → shown_context c a ≡ true
      → from < to → to ≤ clock → from ≤ s.from → s.to ≤ to → LiesIn (slices_from Coarse end (going from clock a x first) k items) s
  goes-on end [] k from clock to a x first s shown less most low high =
      record {
        slice = slice_of Coarse from (max clock end) a first k;
        there = closed-there from (max clock end) k clock a x first shown (omega arith);
        from = low;
        to = omega arith;
      }
  goes-on end (i ∷ is) k from clock to a x first s shown less most low high =
      step (same_context c a (context_after p x i))
      (goes-on end is (k + 1) from (At clock i) to a (context_after p x i) first s shown less (omega arith) low high)
    where
      step : (d : Bool) → LiesIn (slices_from Coarse end (going from (At clock i) a (context_after p x i) first) (k + 1) is) s
          → LiesIn (From Coarse d end i is k from clock a x first) s
      step true rest = rest
      step false rest =
          lies-left (closed Coarse (going from clock a x first) (At clock i) k)
          (slices_from Coarse end (going (At clock i) (At clock i) (context_after p x i) (context_after p x i) k) (k + 1) is) s
          (record {
            slice = slice_of Coarse from (At clock i) a first k;
            there = closed-there from (At clock i) k clock a x first shown (omega arith);
            from = low;
            to = omega arith;
          })

  -- all the fine slices from here on lie in the coarse ones
  abbrev Both : ℕ → List Item → ℕ → ℕ → ℕ → ℕ → Context → Context → Context → ℕ → ℕ → Type 0
  Both end items k from1 from2 clock b a x first1 first2 =
      All (Inside (slices_from Coarse end (going from2 clock a x first2) k items)) (slices_from Fine end (going from1 clock b x first1) k items)

  -- the coarse slice that goes on began before the fine one, and shows what that shows
  nested-from : (end : ℕ) (items : List Item) (k from1 from2 clock : ℕ) (b a x : Context) (first1 first2 : ℕ)
      → from2 ≤ from1 → from1 ≤ clock → same_context c a b ≡ true
      → Both end items k from1 from2 clock b a x first1 first2
  nested-from end [] k from1 from2 clock b a x first1 first2 before now same =
      closed-inside (slices_from Coarse end (going from2 clock a x first2) k []) from1 (max clock end) k clock b x first1
      (λ less shown asked. record {
        slice = slice_of Coarse from2 (max clock end) a first2 k;
        there = closed-there from2 (max clock end) k clock a x first2 (shows a b shown asked same) (omega arith);
        from = before;
        to = omega arith;
      })
  nested-from end (i ∷ is) k from1 from2 clock b a x first1 first2 before now same =
      step (same_context f b (context_after p x i)) (same_context c a (context_after p x i)) refl refl
      (nested-from end is (k + 1) from1 from2 (At clock i) b a (context_after p x i) first1 first2 before (omega arith) same)
      (λ h. nested-from end is (k + 1) (At clock i) from2 (At clock i) (context_after p x i) a (context_after p x i) k first2 (omega arith)
      (omega arith) h)
      (nested-from end is (k + 1) (At clock i) (At clock i) (At clock i) (context_after p x i) (context_after p x i) (context_after p x i) k k
      (omega arith) (omega arith) (itself (context_after p x i)))
    where
      step : (g d : Bool) → same_context f b (context_after p x i) ≡ g → same_context c a (context_after p x i) ≡ d
          → Both end is (k + 1) from1 from2 (At clock i) b a (context_after p x i) first1 first2
          → (same_context c a (context_after p x i) ≡ true
          → Both end is (k + 1) (At clock i) from2 (At clock i) (context_after p x i) a (context_after p x i) k first2)
          → Both end is (k + 1) (At clock i) (At clock i) (At clock i) (context_after p x i) (context_after p x i) (context_after p x i) k k
          → All (Inside (From Coarse d end i is k from2 clock a x first2)) (From Fine g end i is k from1 clock b x first1)
      step true true e h on other new = on
      step true false e h on other new =
          absurd (let same_still = joins a b (context_after p x i) same (coarser b (context_after p x i) e) in let no : true ≡ false = sym same_still ∙ h in cc)
      step false true e h on other new =
          All-append (Inside (From Coarse true end i is k from2 clock a x first2)) (closed Fine (going from1 clock b x first1) (At clock i) k)
          (slices_from Fine end (going (At clock i) (At clock i) (context_after p x i) (context_after p x i) k) (k + 1) is)
          (closed-inside (From Coarse true end i is k from2 clock a x first2) from1 (At clock i) k clock b x first1
          (λ less shown asked. goes-on end is (k + 1) from2 (At clock i) (At clock i) a (context_after p x i) first2
          (slice_of Fine from1 (At clock i) b first1 k) (shows a b shown asked same) (omega arith) (omega arith) before (omega arith)))
          (other h)
      step false false e h on other new =
          All-append (Inside (From Coarse false end i is k from2 clock a x first2)) (closed Fine (going from1 clock b x first1) (At clock i) k)
          (slices_from Fine end (going (At clock i) (At clock i) (context_after p x i) (context_after p x i) k) (k + 1) is)
          (closed-inside (From Coarse false end i is k from2 clock a x first2) from1 (At clock i) k clock b x first1
          (λ less shown asked. lies-left (closed Coarse (going from2 clock a x first2) (At clock i) k)
          (slices_from Coarse end (going (At clock i) (At clock i) (context_after p x i) (context_after p x i) k) (k + 1) is)
          (slice_of Fine from1 (At clock i) b first1 k) (record {
            slice = slice_of Coarse from2 (At clock i) a first2 k;
            there = closed-there from2 (At clock i) k clock a x first2 (shows a b shown asked same) (omega arith);
            from = before;
            to = omega arith;
          })))
          (All-weaker (Inside (slices_from Coarse end (going (At clock i) (At clock i) (context_after p x i) (context_after p x i) k) (k + 1) is))
          (Inside (From Coarse false end i is k from2 clock a x first2))
          (λ s lies asked. lies-right (closed Coarse (going from2 clock a x first2) (At clock i) k)
          (slices_from Coarse end (going (At clock i) (At clock i) (context_after p x i) (context_after p x i) k) (k + 1) is) s (lies asked))
          (slices_from Fine end (going (At clock i) (At clock i) (context_after p x i) (context_after p x i) k) (k + 1) is) new)

  pub nested : (span : Span) (items : List Item) → All (Inside (slices span items Coarse)) (slices span items Fine)
  nested span items =
      let nobody : Context = record { look = Unowned; act = None } in
      nested-from span.end items 0 span.begin span.begin span.begin nobody nobody nobody 0 0 (omega arith) (omega arith) (itself nobody)

-- SAME. What shows the same.
space-joins : (a b d : Option SpaceNo) → same_space a b ≡ true → same_space b d ≡ true → same_space a d ≡ true
space-joins None None None h g = refl
space-joins (Some s) (Some u) (Some v) h g = eq-eqb s.0 v.0 (eqb-true s.0 u.0 h ∙ eqb-true u.0 v.0 g)
space-joins _ _ _ h g = absurd (cc)

act-joins : (a b d : Option ActNo) → same_act a b ≡ true → same_act b d ≡ true → same_act a d ≡ true
act-joins None None None h g = refl
act-joins (Some s) (Some u) (Some v) h g = eq-eqb s.0 v.0 (eqb-true s.0 u.0 h ∙ eqb-true u.0 v.0 g)
act-joins _ _ _ h g = absurd (cc)

some-space : (a b : Option SpaceNo) → is_some b ≡ true → same_space a b ≡ true → is_some a ≡ true
some-space None None h g = absurd (cc)
some-space None (Some s) h g = absurd (cc)
some-space (Some s) b h g = refl

some-act : (a b : Option ActNo) → is_some b ≡ true → same_act a b ≡ true → is_some a ≡ true
some-act None None h g = absurd (cc)
some-act None (Some s) h g = absurd (cc)
some-act (Some s) b h g = refl

abbrev same_owner : Context → Context → Bool
same_owner a b = same_space (owner a.look) (owner b.look)

owner-joins : (a b d : Context) → same_owner a b ≡ true → same_owner b d ≡ true → same_owner a d ≡ true
owner-joins a b d h g = space-joins (owner a.look) (owner b.look) (owner d.look) h g

activation-joins : (a b d : Context) → same_context Activation a b ≡ true → same_context Activation b d ≡ true → same_context Activation a d ≡ true
activation-joins a b d h g =
    let one = and_parts (same_owner a b) (same_act a.act b.act) h in
    let two = and_parts (same_owner b d) (same_act b.act d.act) g in
    and_from (same_owner a d) (same_act a.act d.act) (owner-joins a b d one.0 two.0) (act-joins a.act b.act d.act one.1 two.1)

owner-of : (a b : Context) → same_context Work a b ≡ true → same_context Activation a b ≡ true
owner-of a b h = let l = and_parts (same_owner a b && same_act a.act b.act) (same_look a.look b.look) h in l.0

abbrev Anything : State → Type 0
Anything v = Unit {0}

abbrev Asked : Span → List Item → ProcNo → Slice → Type 0
Asked span items p s = Anything s.shown → LiesIn (slices span items (Processor p Owner)) s

-- the activations and what a processor does lie in its owners
pub in-owner : (span : Span) (items : List Item) (p : ProcNo)
    → All (LiesIn (slices span items (Processor p Owner))) (slices span items (Processor p Activation))
    × All (LiesIn (slices span items (Processor p Owner))) (slices span items (Processor p Work))
in-owner span items p = (
  All-weaker (Asked span items p) (LiesIn (slices span items (Processor p Owner))) (λ s lies. lies tt) (slices span items (Processor p Activation))
      (nested p Activation Owner Anything (λ a b h. let l = and_parts (same_owner a b) (same_act a.act b.act) h in l.0) owner-joins
      (λ a. space-itself (owner a.look))
      (λ a b shown asked same. let l = and_parts (is_some (owner b.look)) (is_some b.act) shown in some-space (owner a.look) (owner b.look) l.0 same)
      span items),
  All-weaker (Asked span items p) (LiesIn (slices span items (Processor p Owner))) (λ s lies. lies tt) (slices span items (Processor p Work))
      (nested p Work Owner Anything (λ a b h. let l = and_parts (same_owner a b) (same_act a.act b.act) (owner-of a b h) in l.0) owner-joins
      (λ a. space-itself (owner a.look))
      (λ a b shown asked same. let l = and_parts (is_some (owner b.look)) (is_work b.look) shown in some-space (owner a.look) (owner b.look) l.0 same)
      span items),
)

-- what a processor does in an activation lies in it
pub in-act : (span : Span) (items : List Item) (p : ProcNo)
    → All (λ (s : Slice). in_activation s.shown ≡ true → LiesIn (slices span items (Processor p Activation)) s) (slices span items (Processor p Work))
in-act span items p =
    nested p Work Activation (λ v. in_activation v ≡ true) owner-of activation-joins
    (λ a. and_from (same_owner a a) (same_act a.act a.act) (space-itself (owner a.look)) (act-itself a.act))
    (λ a b shown asked same.
    let one = and_parts (is_some (owner b.look)) (is_work b.look) shown in
    let two = and_parts (same_owner a b) (same_act a.act b.act) same in
    and_from (is_some (owner a.look)) (is_some a.act) (some-space (owner a.look) (owner b.look) one.0 two.0) (some-act a.act b.act asked two.1))
    span items
