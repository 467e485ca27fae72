-- Names and lines need no escape.
use Rattle.std.proofs.Common.{◌≡◌, ℕ, ◌^◌, ◌<◌, ◌≤◌, ◌&&◌, ◌||◌, Bool, true, false, eqb, List, Option, Some, None, refl, arith}
use Rattle.std.specs.Prelude.{codes, decimal, nat_le}
use Rattle.std.proofs.lemmas.Bool.{le-leb, and_from}
use Rattle.sa_base.specs.declared.number.ActNo.{ActNo}
use Rattle.sa_base.specs.declared.record.Item.{Item}
use Rattle.sa_shapes.specs.declared.look.Look.{Look}
use Rattle.sa_shapes.specs.declared.look.Look.TheVariants as look
use Rattle.sa_shapes.specs.Look.{owner}
use Rattle.sa_svg.specs.Markup.{numbered}
use Rattle.sa_trace.specs.declared.kind.Kind.{Kind}
use Rattle.sa_trace.specs.declared.kind.Kind.TheVariants as kind
use Rattle.sa_trace.specs.Kind.{form_of}
use Rattle.sa_trace.specs.Text.{FitsItem}
use Rattle.sa_trace.specs.TraceText.{item_text, record_text}
use Rattle.sa_trace.proofs.LineBytes.{all-append, all-decimal, all-record, all-item}
use Rattle.sa_trace_events.specs.declared.track.Level.{Level}
use Rattle.sa_trace_events.specs.declared.track.Level.TheVariants.{Owner, Activation, Work}
use Rattle.sa_trace_events.specs.declared.track.Track.{Track}
use Rattle.sa_trace_events.specs.declared.state.Context.{Context}
use Rattle.sa_trace_events.specs.declared.state.Doing.{Doing}
use Rattle.sa_trace_events.specs.declared.state.Doing.TheVariants as doing
use Rattle.sa_trace_events.specs.declared.state.Holder.{Holder}
use Rattle.sa_trace_events.specs.declared.state.Holder.TheVariants as holder
use Rattle.sa_trace_events.specs.declared.slices.State.{State}
use Rattle.sa_trace_events.specs.declared.slices.State.TheVariants as state
use Rattle.sa_trace_events.specs.Slices.{level_of}
use Rattle.sa_trace_events.specs.Words.{owner_name, act_name, work_name, context_name, doing_name, holder_name, state_name}
use Rattle.sa_trace_events.specs.Laws.{is_plain_byte, is_plain, FitsLook, FitsAct, FitsDoing, FitsHolder, FitsState}

or-third : (a b c d : Bool) → c ≡ true → (((a || b) || c) || d) ≡ true
or-third false false false d h = absurd (cc)
or-third _ _ _ d h = refl

plain-digit : (b : ℕ) → 48 ≤ b → b ≤ 57 → is_plain_byte b ≡ true
plain-digit b low high =
    or-third (eqb b 32) (nat_le 44 b && nat_le b 46) (nat_le 48 b && nat_le b 58) (nat_le 97 b && nat_le b 122)
    (and_from (nat_le 48 b) (nat_le b 58) (le-leb 48 b low) (le-leb b 58 (omega arith)))

plain-numbered : (word : List ℕ) (n : ℕ) → is_plain word ≡ true → n < 2 ^ 64 → is_plain (numbered word n) ≡ true
plain-numbered word n plain small = all-append is_plain_byte word (decimal n) plain (all-decimal is_plain_byte plain-digit n small)

plain-word : (k : Kind) → is_plain (form_of k).word ≡ true
plain-word kind.Ins = refl
plain-word _ = refl

pub plain-record : (i : Item) → FitsItem i → is_plain (record_text i.what) ≡ true
plain-record = all-record is_plain_byte plain-digit refl refl plain-word

pub plain-item : (i : Item) → FitsItem i → is_plain (item_text i) ≡ true
plain-item = all-item is_plain_byte plain-digit refl refl plain-word

plain-owner : (l : Look) → FitsLook l → is_plain (owner_name (owner l)) ≡ true
plain-owner look.Unowned h = refl
plain-owner (look.Thread s t) h = plain-numbered (codes "space ") s.0 refl h.0
plain-owner (look.Package s) h = plain-numbered (codes "space ") s.0 refl h
plain-owner (look.Placed s) h = plain-numbered (codes "space ") s.0 refl h
plain-owner (look.GoesOn s) h = plain-numbered (codes "space ") s.0 refl h
plain-owner (look.List s l) h = plain-numbered (codes "space ") s.0 refl h.0
plain-owner (look.Idle s) h = plain-numbered (codes "space ") s.0 refl h
plain-owner (look.Section s) h = plain-numbered (codes "space ") s.0 refl h

plain-act : (a : Option ActNo) → FitsAct a → is_plain (act_name a) ≡ true
plain-act None h = refl
plain-act (Some a) h = plain-numbered (codes "activation ") a.0 refl h

plain-work : (l : Look) → FitsLook l → is_plain (work_name l) ≡ true
plain-work (look.Thread s t) h = plain-numbered (codes "thread ") t.0 refl h.1
plain-work (look.List s l) h = plain-numbered (codes "list ") l.0 refl h.1
plain-work _ h = refl

plain-context : (l : Level) (c : Context) → FitsLook c.look × FitsAct c.act → is_plain (context_name l c) ≡ true
plain-context Owner c h = plain-owner c.look h.0
plain-context Activation c h = plain-act c.act h.1
plain-context Work c h = plain-work c.look h.0

plain-doing : (d : Doing) → FitsDoing d → is_plain (doing_name d) ≡ true
plain-doing (doing.Runs p) h = plain-numbered (codes "runs on processor ") p.0 refl h
plain-doing (doing.Section p) h = plain-numbered (codes "section on processor ") p.0 refl h
plain-doing (doing.Blocked io) h = plain-numbered (codes "blocked: io ") io.0 refl h
plain-doing _ h = refl

plain-holder : (k : Holder) → FitsHolder k → is_plain (holder_name k) ≡ true
plain-holder holder.Nobody h = refl
plain-holder (holder.Handler p) h = plain-numbered (codes "held: processor ") p.0 refl h
plain-holder (holder.Thread p t) h =
    all-append is_plain_byte (numbered (codes "held: processor ") p.0) (numbered (codes ", thread ") t.0) (plain-numbered (codes "held: processor ") p.0 refl h.0)
    (plain-numbered (codes ", thread ") t.0 refl h.1)

pub plain-name : (t : Track) (v : State) → FitsState v → is_plain (state_name t v) ≡ true
plain-name t (state.Context c) h = plain-context (level_of t) c h
plain-name t (state.Doing d) h = plain-doing d h
plain-name t (state.Holder k) h = plain-holder k h
plain-name t (state.Tally y) h = plain-numbered (codes "") y.n refl h
