-- The line that is refused is the first that no script has after the lines before it.
use Rattle.std.proofs.Common.{◌≡◌, ℕ, suc, ◌+◌, ◌-◌, ◌<◌, ◌≤◌, List, [], ◌∷◌, ◌++◌, length, take, Option, Some, None, Result, Ok, Err, ◌⊎◌, refl, sym, ap, ◌∙◌, subst, inl, inr, arith}
use Rattle.std.specs.Prelude.{All}
use Rattle.std.proofs.lemmas.List.Elements.{All-nil, All-cons}
use Rattle.sa_base.specs.declared.refusal.Bad.{Bad}
use Rattle.sa_base.specs.declared.refusal.Cause.{Cause}
use Rattle.sa_base.specs.Cause.{bad_at}
use Rattle.sa_spaces.specs.Workload.{WorkloadView, IsWorkload}
use Rattle.sa_text.specs.LineText.{LineText, line_texts}
use Rattle.sa_trace.specs.Pieces.{unless}
use Rattle.sa_trace.specs.Reading.{bad_after}
use Rattle.sa_trace.proofs.FirstBad.{same_cons, some_after, same_after, take_fewer, compared}
use Rattle.sa_debug.specs.declared.script.command.DebugCommand.{DebugCommand}
use Rattle.sa_debug.specs.declared.script.TheConstants.{MAX_LINES}
use Rattle.sa_debug.specs.script.Line.{line_in, cause_after}
use Rattle.sa_debug.specs.script.Reading.{after_line, read_from, script_of}
use Rattle.sa_debug.specs.script.Text.{script_text, FitsCommand, IsTextOf}
use Rattle.sa_debug.specs.script.TextLaws.{IsFirstBad}
use Rattle.sa_debug.proofs.script.Commands.{IsSmall, small-workload}
use Rattle.sa_debug.proofs.script.Whole.{command_line, text_lines, step, line_in-some, line_in-none, lines-refused, text-lines}

same_bad : (a b : Bad) → (λ (r : Result (List DebugCommand) Bad). r) (Err a) ≡ Err b → a ≡ b
same_bad a b h = cc

after_line-err : (number : ℕ) (r : Result (Option DebugCommand) Cause) (more : DebugCommand → Result (List DebugCommand) Bad)
    (last : Result (List DebugCommand) Bad) (bad : Bad)
    → after_line number r more last ≡ Err bad
    → ((cause : Cause) × (r ≡ Err cause) × (bad_at number cause ≡ bad))
    ⊎ (((c : DebugCommand) × (r ≡ Ok (Some c)) × (more c ≡ Err bad)) ⊎ ((r ≡ Ok None) × (last ≡ Err bad)))
after_line-err number (Err cause) more last bad h = inl (cause, refl, same_bad (bad_at number cause) bad h)
after_line-err number (Ok (Some c)) more last bad h = inr (inl (c, refl, h))
after_line-err number (Ok None) more last bad h = inr (inr (refl, h))

unless-err : (o : Option Bad) (cs : List DebugCommand) (bad : Bad) → unless o cs ≡ Err bad → o ≡ Some bad
unless-err None cs bad h = absurd cc
unless-err (Some b) cs bad h = ap (λ x. Some x) (same_bad b bad h)

-- reading stops k lines on: some script has these k lines, and what goes on with the next line too is refused alike
pub record Stops (w : WorkloadView) (number : ℕ) (before : List DebugCommand) (lines : List LineText) (bad : Bad) (k : ℕ) : Type 0 where
  pub line : bad.line ≡ number + k
  pub within : k ≤ length lines
  pub few : number + k ≤ MAX_LINES + 1
  pub more : List DebugCommand
  pub fit : All (FitsCommand w) more
  pub front : take k (text_lines more) ≡ take k lines
  pub alike : (others : List LineText) → take (suc k) others ≡ take (suc k) lines → read_from w number before others ≡ Err bad

module _ (w : WorkloadView) where
  no_line-alike : (number : ℕ) (before : List DebugCommand) (bad : Bad) → read_from w number before [] ≡ Err bad → (others : List LineText) → take 1 others ≡ []
      → read_from w number before others ≡ Err bad
  no_line-alike number before bad h [] e = h
  no_line-alike number before bad h (other ∷ others) e = absurd cc

  cause-alike : (number : ℕ) (before : List DebugCommand) (line : LineText) (lines : List LineText) (cause : Cause) (bad : Bad)
      → line_in w number line ≡ Err cause
      → bad_at number cause ≡ bad → (others : List LineText) → take 1 others ≡ take 1 (line ∷ lines) → read_from w number before others ≡ Err bad
  cause-alike number before line lines cause bad wrong is [] e = absurd cc
  cause-alike number before line lines cause bad wrong is (other ∷ others) e =
      let same = same_cons other line [] [] e in
      ap (step w number before others) (ap (line_in w number) same.0 ∙ wrong) ∙ ap (λ b. Err b) is

  next-alike : (number : ℕ) (before : List DebugCommand) (line : LineText) (lines : List LineText) (c : DebugCommand) (bad : Bad) (k : ℕ)
      → line_in w number line ≡ Ok (Some c)
      → ((others : List LineText) → take (suc k) others ≡ take (suc k) lines → read_from w (number + 1) (before ++ c ∷ []) others ≡ Err bad)
      → (others : List LineText) → take (suc (suc k)) others ≡ take (suc (suc k)) (line ∷ lines) → read_from w number before others ≡ Err bad
  next-alike number before line lines c bad k next later [] e = absurd cc
  next-alike number before line lines c bad k next later (other ∷ others) e =
      let same = same_cons other line (take (suc k) others) (take (suc k) lines) e in
      ap (step w number before others) (ap (line_in w number) same.0 ∙ next) ∙ later others same.1

  last-alike : (number : ℕ) (before : List DebugCommand) (line : LineText) (lines : List LineText) (bad : Bad) → line_in w number line ≡ Ok None
      → bad_after cause_after (number + 1) lines ≡ Some bad
      → (others : List LineText) → take 2 others ≡ take 2 (line ∷ lines) → read_from w number before others ≡ Err bad
  last-alike number before line lines bad last behind [] e = absurd cc
  last-alike number before line lines bad last behind (other ∷ others) e =
      let same = same_cons other line (take 1 others) (take 1 lines) e in
      ap (step w number before others) (ap (line_in w number) same.0 ∙ last)
      ∙ ap (λ o. unless o before) (same_after cause_after (number + 1) others lines same.1 ∙ behind)

  stops : IsSmall w → (number : ℕ) (before : List DebugCommand) (lines : List LineText) (bad : Bad) → number ≤ MAX_LINES + 1
      → read_from w number before lines ≡ Err bad → (k : ℕ) × Stops w number before lines bad k
  stops small number before [] bad few h = (
    0,
    record {
      line = omega (arith, ap (λ (b : Bad). b.line) (same_bad _ bad h));
      within = omega arith;
      few = omega arith;
      more = [];
      fit = All-nil (FitsCommand w);
      front = refl;
      alike = no_line-alike number before bad h;
    },
  )
  stops small number before (line ∷ lines) bad few h =
      elim (after_line-err number (line_in w number line) (λ c. read_from w (number + 1) (before ++ c ∷ []) lines)
      (unless (bad_after cause_after (number + 1) lines) before) bad h) [
        | inl wrong ↦ (
          0,
          record {
            line = omega (arith, ap (λ (b : Bad). b.line) wrong.2);
            within = omega arith;
            few = omega arith;
            more = [];
            fit = All-nil (FitsCommand w);
            front = refl;
            alike = cause-alike number before line lines wrong.0 bad wrong.1 wrong.2;
          },
        )
        | inr right ↦ elim right [
          | inl next ↦
              let is = line_in-some w small number line next.0 next.1 in
              let low : number ≤ MAX_LINES = is.1 in
              let rest = stops small (number + 1) (before ++ next.0 ∷ []) lines bad (omega arith) next.2 in
              let later = rest.1 in (
                suc rest.0,
                record {
                  line = omega (arith, later.line);
                  within = omega (arith, later.within);
                  few = omega (arith, later.few);
                  more = next.0 ∷ later.more;
                  fit = All-cons (FitsCommand w) next.0 later.more is.2 later.fit;
                  front = ap (λ ls. command_line next.0 ∷ ls) later.front ∙ ap (λ l. l ∷ take rest.0 lines) (sym is.0);
                  alike = next-alike number before line lines next.0 bad rest.0 next.1 later.alike;
                },
              )
          | inr last ↦
              let is = line_in-none w small number line last.0 in
              let low : number ≤ MAX_LINES = is.1 in
              let behind = unless-err (bad_after cause_after (number + 1) lines) before bad last.1 in
              let some = some_after cause_after (number + 1) lines bad behind in (
                1,
                record {
                  line = some.0;
                  within = omega arith;
                  few = omega arith;
                  more = [];
                  fit = All-nil (FitsCommand w);
                  front = ap (λ l. l ∷ []) (sym is.0);
                  alike = last-alike number before line lines bad last.0 behind;
                },
              )
        ]
      ]

  -- a script that has the line too is refused later
  has_not : IsSmall w → (other : List ℕ) (cs : List DebugCommand) (bad : Bad) → IsTextOf w other cs → bad.line ≤ MAX_LINES
      → read_from w 1 [] (line_texts other) ≡ Err bad → ⊥
  has_not small other cs bad is few h =
      let lines : line_texts other ≡ text_lines cs = ap line_texts is.printed ∙ text-lines w small cs is.fit in
      let over : bad.line ≡ MAX_LINES + 1 = lines-refused w small 1 [] cs bad is.fit (omega arith) (sym (ap (read_from w 1 []) lines) ∙ h) in
      omega arith

  -- a line that is refused is the first bad one
  pub refused-first : (text : List ℕ) (bad : Bad) → IsWorkload w → script_of w text ≡ Err bad → IsFirstBad w text bad.line
  unfolding script_of
  refused-first text bad is h =
      let small = small-workload w is in
      let stop = stops small 1 [] (line_texts text) bad (omega arith) h in
      let k = stop.0 in
      let at = stop.1 in
      let lines : line_texts (script_text at.more) ≡ text_lines at.more = text-lines w small at.more at.fit in
      let front : take k (line_texts (script_text at.more)) ≡ take k (line_texts text) = ap (take k) lines ∙ at.front in
      let place : k ≡ bad.line - 1 = omega (arith, at.line) in
      let next : bad.line ≡ suc k = omega (arith, at.line) in
      record {
        counted = omega (arith, at.line);
        within = omega (arith, at.line, at.within);
        few = omega (arith, at.line, at.few);
        before = (
          script_text at.more,
          at.more,
          record { printed = refl; fit = at.fit },
          subst (λ n. take n (line_texts (script_text at.more)) ≡ take n (line_texts text)) place front,
        );
        none = λ low other cs text_of same. has_not small other cs bad text_of low
            (at.alike (line_texts other) (subst (λ n. take n (line_texts other) ≡ take n (line_texts text)) next same));
      }

  -- a text has one first bad line at most
  not_before : (text : List ℕ) (j k : ℕ) → IsFirstBad w text j → IsFirstBad w text k → j < k → ⊥
  not_before text j k a b h =
      a.none (omega (arith, b.few)) b.before.0 b.before.1 b.before.2 (take_fewer j (k - 1) (line_texts b.before.0) (line_texts text) (omega arith) b.before.3)

  pub first-one : (text : List ℕ) (j k : ℕ) → IsFirstBad w text j → IsFirstBad w text k → j ≡ k
  first-one text j k a b =
      elim (compared j k) [
        | inl less ↦ absurd (not_before text j k a b less)
        | inr other ↦ elim other [ inl more ↦ absurd (not_before text k j b a more) | inr same ↦ same ]
      ]
