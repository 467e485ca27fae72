-- A command has one spelling in pieces, which is read back.
use Rattle.std.proofs.Common.{◌≡◌, ℕ, ◌-◌, ◌^◌, ◌<◌, ◌≤◌, [], ◌∷◌, ◌++◌, length, Option, Some, None, Ok, refl, sym, ap, ◌∙◌, subst, arith, append-nil}
use Rattle.std.specs.Prelude.{codes, decimal}
use Rattle.std.proofs.lemmas.Option.{same_Some}
use Rattle.sa_base.specs.declared.limits.TheConstants.{MAX_EVENTS}
use Rattle.sa_base.specs.declared.number.SpaceNo.{SpaceNo}
use Rattle.sa_base.specs.declared.number.ThreadNo.{ThreadNo}
use Rattle.sa_base.specs.declared.refusal.Cause.{Cause}
use Rattle.sa_spaces.specs.Workload.{WorkloadView, IsWorkload}
use Rattle.sa_trace.specs.Pieces.{unless, at_end}
use Rattle.sa_trace.proofs.Readings.{and_then-ok, same_Ok}
use Rattle.sa_trace.proofs.LineTexts.{AreFine, fine-cons, fine-nil, fine-decimal}
use Rattle.sa_text.proofs.Lacking.{lacks_by_test}
use Rattle.sa_debug.specs.declared.script.command.Point.{Point}
use Rattle.sa_debug.specs.declared.script.command.DebugCommand.{DebugCommand}
use Rattle.sa_debug.specs.declared.script.command.DebugCommand.TheVariants as commands
use Rattle.sa_debug.specs.declared.script.fields.Named.{Named}
use Rattle.sa_debug.specs.declared.script.word.Word.{Word}
use Rattle.sa_debug.specs.declared.script.word.Word.TheVariants.{Break, Clear, Halt, Go, Step, Run, Show, Quit}
use Rattle.sa_debug.specs.script.Words.{word_text, word_in}
use Rattle.sa_debug.specs.script.Fields.{Pieces, Taken, taken, made, proc_in, turns_in, thread_at, point_at}
use Rattle.sa_debug.specs.script.Line.{command_at, finished, said_by}
use Rattle.sa_debug.specs.script.Text.{thread_words, point_words, words_of, last_words, FitsThread, FitsPoint, FitsCommand}
use Rattle.sa_debug.proofs.script.Readers.{Reads, same_taken, reads-taken, reads-word, reads-named, reads-point, reads-next_proc, reads-next_turns, NamedFits, PointFits}

-- the numbers of a workload are small
pub record IsSmall (w : WorkloadView) : Type 0 where
  pub spaces : length w.spaces < 2 ^ 64
  pub some : 1 ≤ w.processors
  pub processors : w.processors < 2 ^ 16

pub small-workload : (w : WorkloadView) → IsWorkload w → IsSmall w
small-workload w is = record { spaces = omega (arith, is.few_spaces); some = is.some_processor; processors = omega (arith, is.few_processors) }

-- what makes a command of what is read
module _ {A : Type 0} (read : Pieces → Taken A) (spell : A → Pieces) (Holds : A → Type 0) (is : Reads read spell Holds) (make : A → DebugCommand) where
  pub command-back : (ps rest : Pieces) (c : DebugCommand) → made (λ a. Some (make a)) (read ps) ≡ Ok (Some c, rest)
      → (a : A) × (make a ≡ c) × (ps ≡ spell a ++ rest) × Holds a
  command-back ps rest c h =
      let got = and_then-ok (read ps) (λ a. Ok (Some (make a.0), a.1)) (Some c, rest) h in
      let same = same_taken (Some (make got.0.0)) (Some c) got.0.1 rest got.2 in
      let one = is.back ps got.0.1 got.0.0 got.1 in
      (got.0.0, same_Some (make got.0.0) c same.0, one.0 ∙ ap (λ r. spell got.0.0 ++ r) same.1, one.1)

  pub command-never : (ps rest : Pieces) → made (λ a. Some (make a)) (read ps) ≡ Ok (None, rest) → ⊥
  command-never ps rest h =
      let got = and_then-ok (read ps) (λ a. Ok (Some (make a.0), a.1)) (None, rest) h in
      let same = same_taken (Some (make got.0.0)) None got.0.1 rest got.2 in
      let e = same.0 in absurd cc

  pub command-forth : (a : A) → Holds a → made (λ a. Some (make a)) (read (spell a)) ≡ Ok (Some (make a), [])
  command-forth a holds =
      ap (λ ps. made (λ a. Some (make a)) (read ps)) (sym (append-nil (spell a))) ∙ ap (λ r. made (λ a. Some (make a)) r) (is.forth a [] holds)

fits-thread : (w : WorkloadView) (x : Named) → NamedFits w x → FitsThread w x.space x.thread
fits-thread w x h = record { space = h.0; thread = omega (arith, h.1) }

fits-point : (w : WorkloadView) (x : Point) → PointFits w x → FitsPoint w x
fits-point w x h = record { thread = record { space = h.0.0; thread = omega (arith, h.0.1) }; place = omega (arith, h.1.1) }

thread-fits : (w : WorkloadView) (s : SpaceNo) (t : ThreadNo) → FitsThread w s t → NamedFits w (record { space = s; thread = t })
thread-fits w s t h = (h.space, omega (arith, h.thread))

point-fits : (w : WorkloadView) (x : Point) → FitsPoint w x → PointFits w x
point-fits w x h = ((h.thread.space, omega (arith, h.thread.thread)), (omega arith, omega (arith, h.place)))

-- what a word and the pieces after it say is the command whose words they are
abbrev pub IsSaid : WorkloadView → Pieces → Pieces → DebugCommand → Type 0
IsSaid w ps rest c = (ps ≡ words_of c ++ rest) × FitsCommand w c

one-back : (w : WorkloadView) → IsSmall w → (word : Word) (ps rest : Pieces) (c : DebugCommand) → command_at w word ps ≡ Ok (Some c, rest)
    → IsSaid w (word_text word ∷ ps) rest c
one-back w few Break ps rest c h =
    let got = command-back (point_at w) point_words (PointFits w) (reads-point w few.spaces) (λ x. commands.Break x) ps rest c h in
    subst (IsSaid w (codes "break" ∷ ps) rest) got.1 (ap (λ r. codes "break" ∷ r) got.2, fits-point w got.0 got.3)
one-back w few Clear ps rest c h =
    let got = command-back (point_at w) point_words (PointFits w) (reads-point w few.spaces) (λ x. commands.Clear x) ps rest c h in
    subst (IsSaid w (codes "clear" ∷ ps) rest) got.1 (ap (λ r. codes "clear" ∷ r) got.2, fits-point w got.0 got.3)
one-back w few Halt ps rest c h =
    let got = command-back (taken (proc_in w)) (λ p. decimal p.0 ∷ []) (λ p. p.0 ≤ w.processors - 1) (reads-next_proc w few.processors)
    (λ p. commands.Halt p) ps rest c h in
    subst (IsSaid w (codes "halt" ∷ ps) rest) got.1 (ap (λ r. codes "halt" ∷ r) got.2, omega (arith, got.3, few.some))
one-back w few Go ps rest c h =
    let got = command-back (taken (proc_in w)) (λ p. decimal p.0 ∷ []) (λ p. p.0 ≤ w.processors - 1) (reads-next_proc w few.processors)
    (λ p. commands.Go p) ps rest c h in
    subst (IsSaid w (codes "go" ∷ ps) rest) got.1 (ap (λ r. codes "go" ∷ r) got.2, omega (arith, got.3, few.some))
one-back w few Step ps rest c h =
    let got = command-back (taken (proc_in w)) (λ p. decimal p.0 ∷ []) (λ p. p.0 ≤ w.processors - 1) (reads-next_proc w few.processors)
    (λ p. commands.Step p) ps rest c h in
    subst (IsSaid w (codes "step" ∷ ps) rest) got.1 (ap (λ r. codes "step" ∷ r) got.2, omega (arith, got.3, few.some))
one-back w few Run ps rest c h =
    let got = command-back (taken turns_in) (λ n. decimal n ∷ []) (λ n. (1 ≤ n) × (n ≤ MAX_EVENTS)) reads-next_turns (λ n. commands.Run n) ps rest c h in
    subst (IsSaid w (codes "run" ∷ ps) rest) got.1 (ap (λ r. codes "run" ∷ r) got.2, got.3)
one-back w few Show ps rest c h =
    let got = command-back (thread_at w) (λ x. thread_words x.space x.thread) (NamedFits w) (reads-named w few.spaces)
    (λ x. commands.Show x.space x.thread) ps rest c h in
    subst (IsSaid w (codes "show" ∷ ps) rest) got.1 (ap (λ r. codes "show" ∷ r) got.2, fits-thread w got.0 got.3)
one-back w few Quit ps rest c h =
    let same = same_taken None (Some c) ps rest h in let e = same.0 in absurd cc

-- and the last one
none-back : (w : WorkloadView) → IsSmall w → (word : Word) (ps rest : Pieces) → command_at w word ps ≡ Ok (None, rest)
    → word_text word ∷ ps ≡ last_words ++ rest
none-back w few Break ps rest h = absurd (command-never (point_at w) point_words (PointFits w) (reads-point w few.spaces) (λ x. commands.Break x) ps rest h)
none-back w few Clear ps rest h = absurd (command-never (point_at w) point_words (PointFits w) (reads-point w few.spaces) (λ x. commands.Clear x) ps rest h)
none-back w few Halt ps rest h =
    absurd (command-never (taken (proc_in w)) (λ p. decimal p.0 ∷ []) (λ p. p.0 ≤ w.processors - 1) (reads-next_proc w few.processors)
    (λ p. commands.Halt p) ps rest h)
none-back w few Go ps rest h =
    absurd (command-never (taken (proc_in w)) (λ p. decimal p.0 ∷ []) (λ p. p.0 ≤ w.processors - 1) (reads-next_proc w few.processors)
    (λ p. commands.Go p) ps rest h)
none-back w few Step ps rest h =
    absurd (command-never (taken (proc_in w)) (λ p. decimal p.0 ∷ []) (λ p. p.0 ≤ w.processors - 1) (reads-next_proc w few.processors)
    (λ p. commands.Step p) ps rest h)
none-back w few Run ps rest h =
    absurd (command-never (taken turns_in) (λ n. decimal n ∷ []) (λ n. (1 ≤ n) × (n ≤ MAX_EVENTS)) reads-next_turns (λ n. commands.Run n) ps rest h)
none-back w few Show ps rest h =
    absurd (command-never (thread_at w) (λ x. thread_words x.space x.thread) (NamedFits w) (reads-named w few.spaces)
    (λ x. commands.Show x.space x.thread) ps rest h)
none-back w few Quit ps rest h = ap (λ r. codes "quit" ∷ r) (same_taken {A = Option DebugCommand} None None ps rest h).1

unless-ok : {A : Type 0} (o : Option Cause) (a b : A) → unless o a ≡ Ok b → (o ≡ None) × (a ≡ b)
unless-ok None a b h = (refl, same_Ok a b h)
unless-ok (Some cause) a b h = absurd cc

at_end-none : (ps : Pieces) → at_end ps ≡ None → ps ≡ []
at_end-none [] h = refl
at_end-none (p ∷ ps) h = absurd cc

-- the pieces of a line
said-ok : (w : WorkloadView) (ps : Pieces) (o : Option DebugCommand) → said_by w ps ≡ Ok o
    → (word : Word) × (rest : Pieces) × (ps ≡ word_text word ∷ rest) × (command_at w word rest ≡ Ok (o, []))
said-ok w ps o h =
    let got = and_then-ok (taken word_in ps) (λ x. finished (command_at w x.0 x.1)) o h in
    let word = (reads-taken word_in word_text (λ word. Unit {0}) reads-word).back ps got.0.1 got.0.0 got.1 in
    let made = and_then-ok (command_at w got.0.0 got.0.1) (λ x. unless (at_end x.1) x.0) o got.2 in
    let last = unless-ok (at_end made.0.1) made.0.0 o made.2 in
    (got.0.0, got.0.1, word.0, made.1 ∙ ap (λ r. Ok (made.0.0, r)) (at_end-none made.0.1 last.0) ∙ ap (λ c. Ok (c, [])) last.1)

pub said_by-command : (w : WorkloadView) → IsSmall w → (ps : Pieces) (c : DebugCommand) → said_by w ps ≡ Ok (Some c) → (ps ≡ words_of c) × FitsCommand w c
said_by-command w few ps c h =
    let got = said-ok w ps (Some c) h in
    let is = one-back w few got.0 got.1 [] c got.3 in
    (got.2 ∙ is.0 ∙ append-nil (words_of c), is.1)

pub said_by-last : (w : WorkloadView) → IsSmall w → (ps : Pieces) → said_by w ps ≡ Ok None → ps ≡ last_words
said_by-last w few ps h = let got = said-ok w ps None h in got.2 ∙ none-back w few got.0 got.1 [] got.3

pub command-said : (w : WorkloadView) → IsSmall w → (c : DebugCommand) → FitsCommand w c → said_by w (words_of c) ≡ Ok (Some c)
command-said w few (commands.Break x) fits =
    ap finished (command-forth (point_at w) point_words (PointFits w) (reads-point w few.spaces) (λ x. commands.Break x) x (point-fits w x fits))
command-said w few (commands.Clear x) fits =
    ap finished (command-forth (point_at w) point_words (PointFits w) (reads-point w few.spaces) (λ x. commands.Clear x) x (point-fits w x fits))
command-said w few (commands.Halt p) fits =
    ap finished (command-forth (taken (proc_in w)) (λ p. decimal p.0 ∷ []) (λ p. p.0 ≤ w.processors - 1) (reads-next_proc w few.processors)
    (λ p. commands.Halt p) p (omega (arith, fits)))
command-said w few (commands.Go p) fits =
    ap finished (command-forth (taken (proc_in w)) (λ p. decimal p.0 ∷ []) (λ p. p.0 ≤ w.processors - 1) (reads-next_proc w few.processors)
    (λ p. commands.Go p) p (omega (arith, fits)))
command-said w few (commands.Step p) fits =
    ap finished (command-forth (taken (proc_in w)) (λ p. decimal p.0 ∷ []) (λ p. p.0 ≤ w.processors - 1) (reads-next_proc w few.processors)
    (λ p. commands.Step p) p (omega (arith, fits)))
command-said w few (commands.Run n) fits =
    ap finished (command-forth (taken turns_in) (λ n. decimal n ∷ []) (λ n. (1 ≤ n) × (n ≤ MAX_EVENTS)) reads-next_turns (λ n. commands.Run n) n fits)
command-said w few (commands.Show s t) fits =
    ap finished (command-forth (thread_at w) (λ x. thread_words x.space x.thread) (NamedFits w) (reads-named w few.spaces) (λ x. commands.Show x.space x.thread)
    (record { space = s; thread = t }) (thread-fits w s t fits))

-- the words of a command, and of the last line, make a line
fine-number : (n : ℕ) → n < 2 ^ 64 → AreFine (decimal n ∷ [])
fine-number n small = fine-decimal n [] small fine-nil

fine-threads : (w : WorkloadView) → IsSmall w → (s : SpaceNo) (t : ThreadNo) → FitsThread w s t → AreFine (thread_words s t)
fine-threads w few s t fits = fine-decimal s.0 (decimal t.0 ∷ []) (omega (arith, fits.space, few.spaces)) (fine-number t.0 (omega (arith, fits.thread)))

fine-points : (w : WorkloadView) → IsSmall w → (x : Point) → FitsPoint w x → AreFine (point_words x)
fine-points w few x fits =
    fine-decimal x.space.0 (decimal x.thread.0 ∷ decimal x.place ∷ []) (omega (arith, fits.thread.space, few.spaces))
    (fine-decimal x.thread.0 (decimal x.place ∷ []) (omega (arith, fits.thread.thread)) (fine-number x.place (omega (arith, fits.place))))

pub fine-command : (w : WorkloadView) → IsSmall w → (c : DebugCommand) → FitsCommand w c → AreFine (words_of c)
fine-command w few (commands.Break x) fits = fine-cons (codes "break") (point_words x) refl (lacks_by_test 32 (codes "break") refl) (fine-points w few x fits)
fine-command w few (commands.Clear x) fits = fine-cons (codes "clear") (point_words x) refl (lacks_by_test 32 (codes "clear") refl) (fine-points w few x fits)
fine-command w few (commands.Halt p) fits =
    fine-cons (codes "halt") (decimal p.0 ∷ []) refl (lacks_by_test 32 (codes "halt") refl) (fine-number p.0 (omega (arith, fits, few.processors)))
fine-command w few (commands.Go p) fits =
    fine-cons (codes "go") (decimal p.0 ∷ []) refl (lacks_by_test 32 (codes "go") refl) (fine-number p.0 (omega (arith, fits, few.processors)))
fine-command w few (commands.Step p) fits =
    fine-cons (codes "step") (decimal p.0 ∷ []) refl (lacks_by_test 32 (codes "step") refl) (fine-number p.0 (omega (arith, fits, few.processors)))
fine-command w few (commands.Run n) fits =
    fine-cons (codes "run") (decimal n ∷ []) refl (lacks_by_test 32 (codes "run") refl) (fine-number n (omega (arith, fits.1)))
fine-command w few (commands.Show s t) fits =
    fine-cons (codes "show") (thread_words s t) refl (lacks_by_test 32 (codes "show") refl) (fine-threads w few s t fits)

pub fine-last : AreFine last_words
fine-last = fine-cons (codes "quit") [] refl (lacks_by_test 32 (codes "quit") refl) fine-nil
