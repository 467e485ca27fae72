-- The arrows of a thread begin and end at items that touch it.
use Rattle.std.proofs.Common.{◌≡◌, ℕ, ◌+◌, ◌<◌, Bool, true, false, not, ◌&&◌, ◌||◌, cond, if◌then◌else◌, List, [], ◌∷◌, ◌++◌, codes, length, map, Option, refl, sym, ap, ◌∙◌}
use Rattle.sa_base.specs.declared.number.SpaceNo.{SpaceNo}
use Rattle.sa_base.specs.declared.number.ThreadNo.{ThreadNo}
use Rattle.sa_base.specs.declared.record.Item.{Item}
use Rattle.sa_base.specs.declared.record.Record.{Record}
use Rattle.sa_base.specs.declared.record.Record.TheVariants as what
use Rattle.sa_trace_events.specs.declared.arrows.Arrow.TheVariants.{Ready}
use Rattle.sa_trace_events.specs.declared.touches.Group.TheVariants.{Threads}
use Rattle.sa_trace_events.specs.declared.touches.Index.{Index}
use Rattle.sa_trace_events.specs.declared.touches.Touch.{Touch}
use Rattle.sa_trace_events.specs.Arrows.{is_ready, is_run, begun_after, end_if, end_text, ends_from, ends_of}
use Rattle.sa_trace_events.specs.Events.{names_thread}
use Rattle.sa_trace_events.specs.Touches.{on_after, touches, clock_after, touch_of, touched_from, nobody, IsIndexOf, touches_at}
use Rattle.sa_trace_events.specs.Whole.{thread_ends}
use Rattle.sa_trace_events.proofs.Touched.{unnamed}
use Rattle.sa_trace_events.proofs.Lists.{found}

not-ready : (s : SpaceNo) (t : ThreadNo) (r : Record) → names_thread s t r ≡ false → is_ready s t r ≡ false
not-ready s t (what.Ready u v) un = un
not-ready s t other un = refl

not-run : (s : SpaceNo) (t : ThreadNo) (r : Record) → names_thread s t r ≡ false → is_run s t r ≡ false
not-run s t (what.Run u v) un = un
not-run s t other un = refl

-- where no arrow begins or ends
no-end : (begun b e : Bool) (x y : List ℕ) → b ≡ false → e ≡ false → (if not begun && b then x else (if begun && e then y else [])) ≡ []
no-end true b e x y off over = ap (λ (c : Bool). if c then y else []) over
no-end false b e x y off over = ap (λ (c : Bool). if c then x else []) off

goes-on : (begun b e : Bool) → b ≡ false → e ≡ false → (b || (begun && not e)) ≡ begun
goes-on true b e off over = ap (λ (c : Bool). c || not e) off ∙ ap not over
goes-on false b e off over = ap (λ (c : Bool). c || false) off

module _ (s : SpaceNo) (t : ThreadNo) where
  abbrev Own : (ℕ → Option ℕ) → ℕ → ℕ → List Item → List Item
  Own on clock k is = map (λ (e : Touch). e.item) (touched_from (Threads s) t.0 on clock k is)

  abbrev Ends : Bool → List Item → List ℕ
  Ends begun is = ends_from (Ready s t) begun is

  ends-own : (is : List Item) (on : ℕ → Option ℕ) (clock k : ℕ) (begun : Bool) → Ends begun (Own on clock k is) ≡ Ends begun is
  ends-own [] on clock k begun = refl
  ends-own (i ∷ is) on clock k begun =
      step (touches (Threads s) t.0 on i) refl (ends-own is (on_after (Threads s) on i) (clock_after (Threads s) clock i) (k + 1))
    where
      step : (b : Bool) → touches (Threads s) t.0 on i ≡ b
          → ((c : Bool) → Ends c (Own (on_after (Threads s) on i) (clock_after (Threads s) clock i) (k + 1) is) ≡ Ends c is)
          → Ends begun (map (λ (e : Touch). e.item) ((cond b (touch_of (Threads s) clock k i ∷ []) [])
          ++ touched_from (Threads s) t.0 (on_after (Threads s) on i) (clock_after (Threads s) clock i) (k + 1) is))
          ≡ Ends begun (i ∷ is)
      step true touch again =
          ap (λ (rest : List ℕ). end_if (Ready s t) begun i ++ rest) (again (begun_after (Ready s t) begun i))
      step false touch again =
          let un = unnamed s t on i touch in
          let ready = not-ready s t i.what un in
          let run = not-run s t i.what un in
          again begun
          ∙ ap (λ (c : Bool). Ends c is) (sym (goes-on begun (is_ready s t i.what) (is_run s t i.what) ready run))
          ∙ ap (λ (text : List ℕ). text ++ Ends (begun_after (Ready s t) begun i) is)
          (sym (no-end begun (is_ready s t i.what) (is_run s t i.what) (end_text (codes "s") (Ready s t) i) (end_text (codes "f") (Ready s t) i) ready run))

-- the arrows of a thread
pub ends-along : (items : List Item) (s t : ℕ) (index : Index) → IsIndexOf (Threads (record { 0 = s })) 0 items index → t < length index.lists.items
    → ends_of (map (λ e. e.item) (touches_at index t)) (Ready (record { 0 = s }) (record { 0 = t })) ≡ thread_ends items s t
ends-along items s t index is within =
    ap (λ (own : List Touch). ends_of (map (λ (e : Touch). e.item) own) (Ready (record { 0 = s }) (record { 0 = t })))
    (found (Threads (record { 0 = s })) 0 items index t is within)
    ∙ ends-own (record { 0 = s }) (record { 0 = t }) items nobody 0 0 false
