-- The lines of a trace hold no sign of markup.
use Rattle.std.proofs.Common.{◌≡◌, ℕ, ◌≤◌, ◌&&◌, true, not, eqb, List, ◌++◌, refl, ap, arith}
use Rattle.std.specs.Prelude.{codes}
use Rattle.std.proofs.lemmas.Bool.{ne_eqb, and_from}
use Rattle.sa_base.specs.declared.record.Item.{Item}
use Rattle.sa_trace.specs.declared.kind.Kind.{Kind}
use Rattle.sa_trace.specs.declared.kind.Kind.TheVariants.{Ins}
use Rattle.sa_trace.specs.Kind.{form_of}
use Rattle.sa_trace.specs.Text.{FitsItem}
use Rattle.sa_trace.specs.TraceText.{item_text, line_of}
use Rattle.sa_trace.proofs.LineBytes.{all-append, all-item}
use Rattle.sa_svg.specs.Laws.{is_plain_byte, is_plain}

pub plain-append : (xs ys : List ℕ) → is_plain xs ≡ true → is_plain ys ≡ true → is_plain (xs ++ ys) ≡ true
plain-append = all-append is_plain_byte

other : (b n : ℕ) → (b ≡ n → ⊥) → not (eqb b n) ≡ true
other b n differ = ap not (ne_eqb b n differ)

pub plain-digit : (b : ℕ) → 48 ≤ b → b ≤ 57 → is_plain_byte b ≡ true
plain-digit b low high =
    and_from (not (eqb b 60) && not (eqb b 62)) (not (eqb b 38))
    (and_from (not (eqb b 60)) (not (eqb b 62)) (other b 60 (λ e. omega arith)) (other b 62 (λ e. omega arith))) (other b 38 (λ e. omega arith))

plain-word : (kind : Kind) → is_plain (form_of kind).word ≡ true
plain-word Ins = refl
plain-word _ = refl

pub plain-line : (i : Item) → FitsItem i → is_plain (line_of i) ≡ true
plain-line i fits = plain-append (item_text i) (codes "\n") (all-item is_plain_byte plain-digit refl refl plain-word i fits) refl
