-- A whole text is read as the commands of which it is the script.
use Rattle.std.proofs.Common.{◌≡◌, ◌≢◌, ℕ, ◌+◌, ◌<◌, ◌≤◌, cond, List, [], ◌∷◌, ◌++◌, length, map, Option, Some, None, Result, Ok, Err, ◌⊎◌, refl, sym, ap, ◌∙◌, subst, inl, inr, arith, append_assoc, append-nil, nat_lt}
use Rattle.std.specs.Prelude.{All}
use Rattle.std.specs.List.{flat_map, join_with_byte}
use Rattle.std.proofs.lemmas.Bool.{ltb-false, lt-ltb, le-ltb}
use Rattle.std.proofs.lemmas.Bool.Decides.{eqb_tells}
use Rattle.std.proofs.lemmas.Grind.{flat_map-append}
use Rattle.std.proofs.lemmas.List.Elements.{All-nil, All-cons, All-head, All-tail}
use Rattle.sa_base.specs.declared.refusal.Bad.{Bad}
use Rattle.sa_base.specs.declared.refusal.Cause.{Cause}
use Rattle.sa_base.specs.declared.refusal.Cause.TheVariants.{TooMany}
use Rattle.sa_base.specs.Cause.{bad_at}
use Rattle.sa_spaces.specs.Workload.{WorkloadView, IsWorkload}
use Rattle.sa_text.specs.LineText.{LineText, ended_line, whole_line, line_texts}
use Rattle.sa_text.proofs.LineLemmas.{line_texts-ended, line_texts-joined}
use Rattle.sa_lemmas.proofs.Booleans.{if_either}
use Rattle.sa_lemmas.proofs.Texts.{regroup}
use Rattle.sa_trace.specs.Line.{pieces_in}
use Rattle.sa_trace.specs.Pieces.{and_then, unless}
use Rattle.sa_trace.specs.Reading.{bad_after}
use Rattle.sa_trace.proofs.Readings.{and_then-ok}
use Rattle.sa_trace.proofs.LineTexts.{AreFine, fine-lacks, pieces_in-line, pieces_in-ok}
use Rattle.sa_trace.proofs.Whole.{none_after}
use Rattle.sa_debug.specs.declared.script.command.DebugCommand.{DebugCommand}
use Rattle.sa_debug.specs.declared.script.command.DebugCommand.TheVariants.{Break, Clear, Halt, Go, Step, Run, Show}
use Rattle.sa_debug.specs.declared.script.TheConstants.{MAX_LINES}
use Rattle.sa_debug.specs.script.Fields.{Pieces}
use Rattle.sa_debug.specs.script.Line.{said_by, line_in, cause_after}
use Rattle.sa_debug.specs.script.Reading.{after_line, read_from, script_of}
use Rattle.sa_debug.specs.script.Text.{words_of, last_words, line_of, script_text, FitsCommand, IsScript}
use Rattle.sa_debug.proofs.script.Commands.{IsSmall, small-workload, said_by-command, said_by-last, command-said, fine-command, fine-last}

-- the line of a command, and the last line
abbrev pub command_line : DebugCommand → LineText
command_line c = ended_line (words_of c)

abbrev pub last_line : LineText
last_line = ended_line last_words

-- the lines of a text
abbrev pub text_lines : List DebugCommand → List LineText
text_lines cs = map command_line cs ++ last_line ∷ []

-- what a line of pieces says
abbrev pub numbered : WorkloadView → ℕ → Pieces → Result (Option DebugCommand) Cause
numbered w number ps = cond (nat_lt MAX_LINES number) (Err TooMany) (said_by w ps)

line_in-fine : (w : WorkloadView) (number : ℕ) (ps : Pieces) → 1 ≤ length ps → AreFine ps → line_in w number (ended_line ps) ≡ numbered w number ps
line_in-fine w number [] some fine = absurd (omega arith)
line_in-fine w number (p ∷ ps) some fine = ap (λ r. and_then r (numbered w number)) (pieces_in-line p ps fine)

some-words : (c : DebugCommand) → 1 ≤ length (words_of c)
some-words (Break x) = omega arith
some-words (Clear x) = omega arith
some-words (Halt p) = omega arith
some-words (Go p) = omega arith
some-words (Step p) = omega arith
some-words (Run n) = omega arith
some-words (Show s t) = omega arith

numbered-within : (w : WorkloadView) (number : ℕ) (ps : Pieces) → number ≤ MAX_LINES → numbered w number ps ≡ said_by w ps
numbered-within w number ps few = ap (λ b. cond b (Err TooMany) (said_by w ps)) (le-ltb MAX_LINES number few)

numbered-over : (w : WorkloadView) (number : ℕ) (ps : Pieces) → MAX_LINES < number → numbered w number ps ≡ Err TooMany
numbered-over w number ps over = ap (λ b. cond b (Err TooMany) (said_by w ps)) (lt-ltb MAX_LINES number over)

-- each line is read back
pub line_in-command : (w : WorkloadView) → IsSmall w → (number : ℕ) (c : DebugCommand) → FitsCommand w c
    → line_in w number (command_line c) ≡ numbered w number (words_of c)
line_in-command w few number c fits = line_in-fine w number (words_of c) (some-words c) (fine-command w few c fits)

pub line_in-last : (w : WorkloadView) (number : ℕ) → line_in w number last_line ≡ numbered w number last_words
line_in-last w number = line_in-fine w number last_words (omega arith) fine-last

-- and is the line of what it is read as
pub line_in-ok : (w : WorkloadView) (number : ℕ) (line : LineText) (o : Option DebugCommand) → line_in w number line ≡ Ok o
    → (ps : Pieces) × (line ≡ ended_line ps) × (number ≤ MAX_LINES) × (said_by w ps ≡ Ok o)
line_in-ok w number line o h =
    let ps = and_then-ok (pieces_in line) (numbered w number) o h in
    let is = pieces_in-ok line ps.0 ps.1 in
    elim (if_either (nat_lt MAX_LINES number) (Err TooMany) (said_by w ps.0) (Ok o) ps.2) [
      | inl over ↦ absurd (let e = over.1 in cc)
      | inr within ↦ (ps.0, is.0, ltb-false MAX_LINES number within.0, within.1)
    ]

pub line_in-some : (w : WorkloadView) → IsSmall w → (number : ℕ) (line : LineText) (c : DebugCommand) → line_in w number line ≡ Ok (Some c)
    → (line ≡ command_line c) × (number ≤ MAX_LINES) × FitsCommand w c
line_in-some w few number line c h =
    let got = line_in-ok w number line (Some c) h in
    let is = said_by-command w few got.0 c got.3 in
    (got.1 ∙ ap ended_line is.0, got.2, is.1)

pub line_in-none : (w : WorkloadView) → IsSmall w → (number : ℕ) (line : LineText) → line_in w number line ≡ Ok None → (line ≡ last_line) × (number ≤ MAX_LINES)
line_in-none w few number line h =
    let got = line_in-ok w number line None h in
    (got.1 ∙ ap ended_line (said_by-last w few got.0 got.3), got.2)

-- what comes of a line, after some commands and before some lines
abbrev pub step : WorkloadView → ℕ → List DebugCommand → List LineText → Result (Option DebugCommand) Cause → Result (List DebugCommand) Bad
step w number before rest said =
    after_line number said (λ c. read_from w (number + 1) (before ++ c ∷ []) rest) (unless (bad_after cause_after (number + 1) rest) before)

last-said : (w : WorkloadView) → said_by w last_words ≡ Ok None
last-said w = refl

-- the lines of few commands are read as these
pub lines-read : (w : WorkloadView) → IsSmall w → (number : ℕ) (before more : List DebugCommand) → All (FitsCommand w) more → number + length more ≤ MAX_LINES
    → read_from w number before (text_lines more) ≡ Ok (before ++ more)
lines-read w small number before [] fits few =
    ap (step w number before []) (line_in-last w number ∙ numbered-within w number last_words (omega arith) ∙ last-said w) ∙ ap Ok (sym (append-nil before))
lines-read w small number before (c ∷ more) fits few =
    ap (step w number before (text_lines more))
    (line_in-command w small number c (All-head (FitsCommand w) c more fits) ∙ numbered-within w number (words_of c) (omega arith)
    ∙ command-said w small c (All-head (FitsCommand w) c more fits))
    ∙ lines-read w small (number + 1) (before ++ c ∷ []) more (All-tail (FitsCommand w) c more fits) (omega arith)
    ∙ ap Ok (append_assoc before (c ∷ []) more)

-- and where they are refused, it is the first line that is one too many
line_is : (number : ℕ) (cause : Cause) (bad : Bad) → (λ (r : Result (List DebugCommand) Bad). r) (Err (bad_at number cause)) ≡ Err bad → bad.line ≡ number
line_is number cause bad h = let same : bad_at number cause ≡ bad = cc in sym (ap (λ (b : Bad). b.line) same)

never : {A : Type 0} (cs : List DebugCommand) (bad : Bad) → (λ (r : Result (List DebugCommand) Bad). r) (Ok cs) ≡ Err bad → A
never cs bad h = absurd cc

within_or_over : (number : ℕ) → number ≤ MAX_LINES + 1 → (number ≤ MAX_LINES) ⊎ (number ≡ MAX_LINES + 1)
within_or_over number few =
    elim (eqb_tells number (MAX_LINES + 1)) [ inl same ↦ inr same.1 | inr other ↦ let apart : number ≢ MAX_LINES + 1 = other.1 in inl (omega arith) ]

pub lines-refused : (w : WorkloadView) → IsSmall w → (number : ℕ) (before more : List DebugCommand) (bad : Bad) → All (FitsCommand w) more → number ≤ MAX_LINES + 1
    → read_from w number before (text_lines more) ≡ Err bad → bad.line ≡ MAX_LINES + 1
lines-refused w small number before [] bad fits few h =
    elim (within_or_over number few) [
      | inl within ↦
          never before bad (sym (ap (step w number before []) (line_in-last w number ∙ numbered-within w number last_words within ∙ last-said w)) ∙ h)
      | inr over ↦
          line_is number TooMany bad (sym (ap (step w number before []) (line_in-last w number ∙ numbered-over w number last_words (omega arith))) ∙ h) ∙ over
    ]
lines-refused w small number before (c ∷ more) bad fits few h =
    elim (within_or_over number few) [
      | inl within ↦
          lines-refused w small (number + 1) (before ++ c ∷ []) more bad (All-tail (FitsCommand w) c more fits) (omega arith)
          (sym (ap (step w number before (text_lines more))
          (line_in-command w small number c (All-head (FitsCommand w) c more fits) ∙ numbered-within w number (words_of c) within
          ∙ command-said w small c (All-head (FitsCommand w) c more fits))) ∙ h)
      | inr over ↦
          line_is number TooMany bad (sym (ap (step w number before (text_lines more))
          (line_in-command w small number c (All-head (FitsCommand w) c more fits) ∙ numbered-over w number (words_of c) (omega arith))) ∙ h) ∙ over
    ]

-- lines that are read are those of what they are read as
pub record AreLinesOf (w : WorkloadView) (number : ℕ) (before : List DebugCommand) (lines : List LineText) (all : List DebugCommand) : Type 0 where
  pub more : List DebugCommand
  pub whole : all ≡ before ++ more
  pub are : lines ≡ text_lines more
  pub fit : All (FitsCommand w) more
  pub few : number + length more ≤ MAX_LINES

after_line-ok : {A : Type 0} (number : ℕ) (r : Result (Option DebugCommand) Cause) (more : DebugCommand → Result A Bad) (last : Result A Bad) (a : A)
    → after_line number r more last ≡ Ok a
    → ((c : DebugCommand) × (r ≡ Ok (Some c)) × (more c ≡ Ok a)) ⊎ ((r ≡ Ok None) × (last ≡ Ok a))
after_line-ok number (Err cause) more last a h = absurd cc
after_line-ok number (Ok (Some c)) more last a h = inl (c, refl, h)
after_line-ok number (Ok None) more last a h = inr (refl, h)

unless-read : (o : Option Bad) (a b : List DebugCommand) → unless o a ≡ Ok b → (o ≡ None) × (a ≡ b)
unless-read None a b h = (refl, cc)
unless-read (Some bad) a b h = absurd cc

pub lines-only : (w : WorkloadView) → IsSmall w → (number : ℕ) (before : List DebugCommand) (lines : List LineText) (all : List DebugCommand)
    → read_from w number before lines ≡ Ok all → AreLinesOf w number before lines all
lines-only w small number before [] all h = absurd cc
lines-only w small number before (line ∷ lines) all h =
    elim (after_line-ok number (line_in w number line) (λ c. read_from w (number + 1) (before ++ c ∷ []) lines)
    (unless (bad_after cause_after (number + 1) lines) before) all h) [
      | inl next ↦
          let is = line_in-some w small number line next.0 next.1 in
          let rest = lines-only w small (number + 1) (before ++ next.0 ∷ []) lines all next.2 in
          record {
            more = next.0 ∷ rest.more;
            whole = rest.whole ∙ append_assoc before (next.0 ∷ []) rest.more;
            are = ap (λ l. l ∷ lines) is.0 ∙ ap (λ ls. command_line next.0 ∷ ls) rest.are;
            fit = All-cons (FitsCommand w) next.0 rest.more is.2 rest.fit;
            few = omega (arith, rest.few);
          }
      | inr last ↦
          let is = line_in-none w small number line last.0 in
          let none = unless-read (bad_after cause_after (number + 1) lines) before all last.1 in
          record {
            more = [];
            whole = sym none.1 ∙ sym (append-nil before);
            are = ap (λ l. l ∷ lines) is.0 ∙ ap (λ ls. last_line ∷ ls) (none_after cause_after (number + 1) lines none.0);
            fit = All-nil (FitsCommand w);
            few = omega (arith, is.1);
          }
    ]

-- the bytes of the lines of a text are the text
lines-commands : (cs : List DebugCommand) → flat_map whole_line (map command_line cs) ≡ flat_map (λ c. line_of (words_of c)) cs
lines-commands [] = refl
lines-commands (c ∷ cs) = ap (λ bs. line_of (words_of c) ++ bs) (lines-commands cs)

pub lines-text : (cs : List DebugCommand) → flat_map whole_line (text_lines cs) ≡ script_text cs
unfolding script_text
lines-text cs =
    flat_map-append whole_line (map command_line cs) (last_line ∷ [])
    ∙ ap (λ bs. bs ++ flat_map whole_line (last_line ∷ [])) (lines-commands cs)
    ∙ ap (λ bs. flat_map (λ c. line_of (words_of c)) cs ++ bs) (append-nil (line_of last_words))

-- and the lines of the text are those lines

commands-lines : (w : WorkloadView) → IsSmall w → (cs : List DebugCommand) (rest : List ℕ) → All (FitsCommand w) cs
    → line_texts (flat_map (λ c. line_of (words_of c)) cs ++ rest) ≡ map command_line cs ++ line_texts rest
commands-lines w small [] rest fits = refl
commands-lines w small (c ∷ cs) rest fits =
    ap line_texts (regroup (join_with_byte 32 (words_of c)) (flat_map (λ d. line_of (words_of d)) cs) rest)
    ∙ line_texts-ended (join_with_byte 32 (words_of c)) (flat_map (λ d. line_of (words_of d)) cs ++ rest)
    (fine-lacks (words_of c) (fine-command w small c (All-head (FitsCommand w) c cs fits)))
    ∙ ap (λ ls. command_line c ∷ ls) (commands-lines w small cs rest (All-tail (FitsCommand w) c cs fits))

pub text-lines : (w : WorkloadView) → IsSmall w → (cs : List DebugCommand) → All (FitsCommand w) cs → line_texts (script_text cs) ≡ text_lines cs
unfolding script_text
text-lines w small cs fits =
    commands-lines w small cs (line_of last_words) fits
    ∙ ap (λ ls. map command_line cs ++ ls) (line_texts-ended (join_with_byte 32 last_words) [] (fine-lacks last_words fine-last))

-- a script is read as its commands, and nothing else is
pub script_of-text : (w : WorkloadView) → IsWorkload w → (text : List ℕ) (cs : List DebugCommand) → IsScript w text cs → script_of w text ≡ Ok cs
unfolding script_of
script_of-text w is text cs script =
    ap (λ bs. read_from w 1 [] (line_texts bs)) script.text_of.printed
    ∙ ap (read_from w 1 []) (text-lines w (small-workload w is) cs script.text_of.fit)
    ∙ lines-read w (small-workload w is) 1 [] cs script.text_of.fit (omega (arith, script.few))

pub script_of-ok : (w : WorkloadView) → IsWorkload w → (text : List ℕ) (cs : List DebugCommand) → script_of w text ≡ Ok cs → IsScript w text cs
unfolding script_of
script_of-ok w is text cs h =
    let got = lines-only w (small-workload w is) 1 [] (line_texts text) cs h in
    let all : got.more ≡ cs = sym got.whole in
    record {
      text_of = record {
        printed = sym (line_texts-joined text) ∙ ap (flat_map whole_line) (got.are ∙ ap text_lines all) ∙ lines-text cs;
        fit = subst (All (FitsCommand w)) all got.fit;
      };
      few = omega (arith, got.few, ap length all);
    }

pub same_script : (r : Result (List DebugCommand) Bad) (a b : List DebugCommand) → r ≡ Ok a → r ≡ Ok b → a ≡ b
same_script r a b one other = cc
