-- What is read from the front of some pieces is the spelling of a value, and each value is read back.
use Rattle.std.proofs.Common.{◌≡◌, ℕ, ◌-◌, ◌^◌, ◌<◌, ◌≤◌, cond, List, [], ◌∷◌, ◌++◌, length, find, Result, Ok, Err, refl, sym, ap, ◌∙◌, subst, inl, inr, arith, append_assoc, nat_lt}
use Rattle.std.specs.Prelude.{decimal}
use Rattle.std.proofs.lemmas.Bool.{ltb-true, lt-ltb}
use Rattle.std.proofs.lemmas.Slice.Eq.{bytes_eq-Decides}
use Rattle.sa_base.specs.declared.limits.TheConstants.{MAX_EVENTS, MAX_THREADS}
use Rattle.sa_base.specs.declared.number.ProcNo.{ProcNo}
use Rattle.sa_base.specs.declared.number.SpaceNo.{SpaceNo}
use Rattle.sa_base.specs.declared.number.ThreadNo.{ThreadNo}
use Rattle.sa_base.specs.declared.refusal.Cause.{Cause}
use Rattle.sa_base.specs.declared.refusal.Cause.TheVariants.{BadWord, BadNumber, NoSuchName}
use Rattle.sa_instr.specs.declared.limits.TheConstants.{MAX_INSTRUCTIONS}
use Rattle.sa_spaces.specs.Workload.{WorkloadView}
use Rattle.sa_text.specs.Number.{number_of}
use Rattle.sa_text.proofs.NumberOf.{reads_number, number_of-some}
use Rattle.sa_lemmas.proofs.Booleans.{if_either}
use Rattle.sa_lemmas.proofs.Searches.{find-passes}
use Rattle.sa_trace.specs.Pieces.{and_then, or_cause, with_rest, number_in}
use Rattle.sa_trace.proofs.Readings.{and_then-ok, or_cause-ok, same_Ok, number_in-ok, number_in-decimal}
use Rattle.sa_debug.specs.declared.script.command.Point.{Point}
use Rattle.sa_debug.specs.declared.script.fields.Named.{Named}
use Rattle.sa_debug.specs.declared.script.word.Word.{Word}
use Rattle.sa_debug.specs.declared.script.word.Word.TheVariants.{Break, Clear, Halt, Go, Step, Run, Show, Quit}
use Rattle.sa_debug.specs.declared.script.word.TheConstants.{WORDS}
use Rattle.sa_debug.specs.script.Words.{word_text, has_text, word_in}
use Rattle.sa_debug.specs.script.Fields.{Pieces, Taken, taken, both, made, declared, space_in, thread_in, place_in, proc_in, turns_in, named, thread_at, point, point_at}
use Rattle.sa_debug.specs.script.Text.{thread_words, point_words}

-- of one piece
pub record ReadsPiece {A : Type 0} (read : List ℕ → Result A Cause) (spell : A → List ℕ) (Fits : A → Type 0) : Type 0 where
  pub back : (p : List ℕ) (a : A) → read p ≡ Ok a → (p ≡ spell a) × Fits a
  pub forth : (a : A) → Fits a → read (spell a) ≡ Ok a

-- of some pieces
pub record Reads {A : Type 0} (read : Pieces → Taken A) (spell : A → Pieces) (Fits : A → Type 0) : Type 0 where
  pub back : (ps rest : Pieces) (a : A) → read ps ≡ Ok (a, rest) → (ps ≡ spell a ++ rest) × Fits a
  pub forth : (a : A) (rest : Pieces) → Fits a → read (spell a ++ rest) ≡ Ok (a, rest)

pub same_taken : {A : Type 0} (a b : A) (rest left : Pieces) → (λ (r : Taken A). r) (Ok (a, rest)) ≡ Ok (b, left) → (a ≡ b) × (rest ≡ left)
same_taken a b rest left h = let same = same_Ok (a, rest) (b, left) h in (ap (λ x. x.0) same, ap (λ x. x.1) same)

with_rest-ok : {A : Type 0} (r : Result A Cause) (rest left : Pieces) (a : A) → with_rest r rest ≡ Ok (a, left) → (r ≡ Ok a) × (rest ≡ left)
with_rest-ok (Ok b) rest left a h = let same = same_taken b a rest left h in (ap Ok same.0, same.1)
with_rest-ok (Err cause) rest left a h = absurd cc

module _ {A : Type 0} (read : List ℕ → Result A Cause) (spell : A → List ℕ) (Fits : A → Type 0) (is : ReadsPiece read spell Fits) where
  taken-back : (ps rest : Pieces) (a : A) → taken read ps ≡ Ok (a, rest) → (ps ≡ spell a ∷ rest) × Fits a
  taken-back [] rest a h = absurd cc
  taken-back (p ∷ ps) rest a h =
      let got = with_rest-ok (read p) ps rest a h in
      let one = is.back p a got.0 in
      (ap (λ x. x ∷ ps) one.0 ∙ ap (λ r. spell a ∷ r) got.1, one.1)

  -- the next piece
  pub reads-taken : Reads (taken read) (λ a. spell a ∷ []) Fits
  reads-taken = record { back = taken-back; forth = λ a rest fits. ap (λ r. with_rest r rest) (is.forth a fits) }

module _ {A B : Type 0} (one : Pieces → Taken A) (other : Pieces → Taken B) (spell_one : A → Pieces) (spell_other : B → Pieces) (FitsOne : A → Type 0)
    (FitsOther : B → Type 0) where
  both-back : Reads one spell_one FitsOne → Reads other spell_other FitsOther → (ps rest : Pieces) (x : A × B) → both one other ps ≡ Ok (x, rest)
      → (ps ≡ (spell_one x.0 ++ spell_other x.1) ++ rest) × (FitsOne x.0 × FitsOther x.1)
  both-back a b ps rest x h =
      let first = and_then-ok (one ps) (λ y. and_then (other y.1) (λ z. Ok ((y.0, z.0), z.1))) (x, rest) h in
      let second = and_then-ok (other first.0.1) (λ z. Ok ((first.0.0, z.0), z.1)) (x, rest) first.2 in
      let is_one = a.back ps first.0.1 first.0.0 first.1 in
      let is_other = b.back first.0.1 second.0.1 second.0.0 second.1 in
      let same = same_taken (first.0.0, second.0.0) x second.0.1 rest second.2 in
      subst (λ y. (ps ≡ (spell_one y.0 ++ spell_other y.1) ++ rest) × (FitsOne y.0 × FitsOther y.1)) same.0 (
        is_one.0 ∙ ap (λ r. spell_one first.0.0 ++ r) (is_other.0 ∙ ap (λ r. spell_other second.0.0 ++ r) same.1)
            ∙ sym (append_assoc (spell_one first.0.0) (spell_other second.0.0) rest),
        (is_one.1, is_other.1),
      )

  -- one after the other
  pub reads-both : Reads one spell_one FitsOne → Reads other spell_other FitsOther
      → Reads (both one other) (λ x. spell_one x.0 ++ spell_other x.1) (λ x. FitsOne x.0 × FitsOther x.1)
  reads-both a b = record {
    back = both-back a b;
    forth = λ x rest fits.
        ap (both one other) (append_assoc (spell_one x.0) (spell_other x.1) rest)
        ∙ ap (λ r. and_then r (λ y. and_then (other y.1) (λ z. Ok ((y.0, z.0), z.1)))) (a.forth x.0 (spell_other x.1 ++ rest) fits.0)
        ∙ ap (λ r. and_then r (λ z. Ok ((x.0, z.0), z.1))) (b.forth x.1 rest fits.1);
  }

-- another value by the same pieces
module _ {A B : Type 0} (read : Pieces → Taken A) (spell : A → Pieces) (Fits : A → Type 0) (make : A → B) (parts : B → A) (there : (b : B) → make (parts b) ≡ b)
    (back : (a : A) → parts (make a) ≡ a) where
  made-back : Reads read spell Fits → (ps rest : Pieces) (b : B) → made make (read ps) ≡ Ok (b, rest) → (ps ≡ spell (parts b) ++ rest) × Fits (parts b)
  made-back is ps rest b h =
      let got = and_then-ok (read ps) (λ a. Ok (make a.0, a.1)) (b, rest) h in
      let same = same_taken (make got.0.0) b got.0.1 rest got.2 in
      let parted : got.0.0 ≡ parts b = sym (back got.0.0) ∙ ap parts same.0 in
      let one = is.back ps got.0.1 got.0.0 got.1 in
      subst (λ a. (ps ≡ spell a ++ rest) × Fits a) parted (one.0 ∙ ap (λ r. spell got.0.0 ++ r) same.1, one.1)

  pub reads-made : Reads read spell Fits → Reads (λ ps. made make (read ps)) (λ b. spell (parts b)) (λ b. Fits (parts b))
  reads-made is = record {
    back = made-back is;
    forth = λ b rest fits. ap (λ r. made make r) (is.forth (parts b) rest fits) ∙ ap (λ c. Ok (c, rest)) (there b);
  }

-- a number, and what has one
pub reads-number : (least greatest : ℕ) → greatest < 2 ^ 64 → ReadsPiece (number_in least greatest) decimal (λ n. (least ≤ n) × (n ≤ greatest))
reads-number least greatest small = record {
  back = λ p n h. let got = number_in-ok least greatest p n h in (got.0, (got.2, got.3));
  forth = λ n fits. let low : n ≤ greatest = fits.1 in number_in-decimal least greatest n (omega arith) fits.0 low;
}

module _ {A : Type 0} (make : ℕ → A) (number : A → ℕ) (there : (a : A) → make (number a) ≡ a) (back : (n : ℕ) → number (make n) ≡ n) (greatest : ℕ) where
  numbered-back : (p : List ℕ) (a : A) → and_then (number_in 0 greatest p) (λ n. Ok (make n)) ≡ Ok a → (p ≡ decimal (number a)) × (number a ≤ greatest)
  numbered-back p a h =
      let got = and_then-ok (number_in 0 greatest p) (λ n. Ok (make n)) a h in
      let is = number_in-ok 0 greatest p got.0 got.1 in
      let same : got.0 ≡ number a = sym (back got.0) ∙ ap number (same_Ok (make got.0) a got.2) in
      subst (λ n. (p ≡ decimal n) × (n ≤ greatest)) same (is.0, is.3)

  pub reads-numbered : greatest < 2 ^ 64
      → ReadsPiece (λ p. and_then (number_in 0 greatest p) (λ n. Ok (make n))) (λ a. decimal (number a)) (λ a. number a ≤ greatest)
  reads-numbered small = record {
    back = numbered-back;
    forth = λ a fits. ap (λ r. and_then r (λ n. Ok (make n))) (number_in-decimal 0 greatest (number a) (omega (arith, fits)) (omega arith) fits)
        ∙ ap (λ x. Ok x) (there a);
  }

-- a space that is declared
declared-ok : (w : WorkloadView) (n : ℕ) (s : SpaceNo) → declared w n ≡ Ok s → (s ≡ record { 0 = n }) × (n < length w.spaces)
declared-ok w n s h =
    elim (if_either (nat_lt n (length w.spaces)) (Ok (record { 0 = n })) (Err NoSuchName) (Ok s) h) [
      | inl is ↦ (sym (same_Ok (record { 0 = n }) s is.1), ltb-true n (length w.spaces) is.0)
      | inr not ↦ absurd cc
    ]

space-back : (w : WorkloadView) (p : List ℕ) (s : SpaceNo) → space_in w p ≡ Ok s → (p ≡ decimal s.0) × (s.0 < length w.spaces)
space-back w p s h =
    let got = and_then-ok (or_cause (number_of p) BadNumber) (declared w) s h in
    let spelled = number_of-some p got.0 (or_cause-ok (number_of p) BadNumber got.0 got.1) in
    let is = declared-ok w got.0 s got.2 in
    let same : got.0 ≡ s.0 = sym (ap (λ (x : SpaceNo). x.0) is.0) in
    subst (λ n. (p ≡ decimal n) × (n < length w.spaces)) same (spelled.0, is.1)

space-forth : (w : WorkloadView) (s : SpaceNo) → length w.spaces < 2 ^ 64 → s.0 < length w.spaces → space_in w (decimal s.0) ≡ Ok s
space-forth w s few within =
    ap (λ o. and_then (or_cause o BadNumber) (declared w)) (reads_number s.0 (omega arith))
    ∙ ap (λ b. cond b (Ok s) (Err NoSuchName)) (lt-ltb s.0 (length w.spaces) within)

pub reads-space : (w : WorkloadView) → length w.spaces < 2 ^ 64 → ReadsPiece (space_in w) (λ s. decimal s.0) (λ s. s.0 < length w.spaces)
reads-space w few = record { back = space-back w; forth = λ s within. space-forth w s few within }

pub reads-thread : ReadsPiece thread_in (λ t. decimal t.0) (λ t. t.0 ≤ MAX_THREADS - 1)
reads-thread = reads-numbered (λ n. (λ (t : ThreadNo). t) (record { 0 = n })) (λ t. t.0) (λ t. refl) (λ n. refl) (MAX_THREADS - 1) (omega arith)

reads-proc : (w : WorkloadView) → w.processors < 2 ^ 16 → ReadsPiece (proc_in w) (λ p. decimal p.0) (λ p. p.0 ≤ w.processors - 1)
reads-proc w few = reads-numbered (λ n. (λ (p : ProcNo). p) (record { 0 = n })) (λ p. p.0) (λ p. refl) (λ n. refl) (w.processors - 1) (omega arith)

reads-turns : ReadsPiece turns_in decimal (λ n. (1 ≤ n) × (n ≤ MAX_EVENTS))
reads-turns = reads-number 1 MAX_EVENTS (omega arith)

pub reads-next_proc : (w : WorkloadView) → w.processors < 2 ^ 16 → Reads (taken (proc_in w)) (λ p. decimal p.0 ∷ []) (λ p. p.0 ≤ w.processors - 1)
reads-next_proc w few = reads-taken (proc_in w) (λ p. decimal p.0) (λ p. p.0 ≤ w.processors - 1) (reads-proc w few)

pub reads-next_turns : Reads (taken turns_in) (λ n. decimal n ∷ []) (λ n. (1 ≤ n) × (n ≤ MAX_EVENTS))
reads-next_turns = reads-taken turns_in decimal (λ n. (1 ≤ n) × (n ≤ MAX_EVENTS)) reads-turns

-- a thread of a space, and a breakpoint
abbrev pub NamedFits : WorkloadView → Named → Type 0
NamedFits w x = (x.space.0 < length w.spaces) × (x.thread.0 ≤ MAX_THREADS - 1)

pub reads-named : (w : WorkloadView) → length w.spaces < 2 ^ 64 → Reads (thread_at w) (λ x. thread_words x.space x.thread) (NamedFits w)
reads-named w few =
    reads-made (both (taken (space_in w)) (taken thread_in)) (λ x. decimal x.0.0 ∷ decimal x.1.0 ∷ [])
    (λ x. (x.0.0 < length w.spaces) × (x.1.0 ≤ MAX_THREADS - 1))
    named (λ x. (x.space, x.thread)) (λ x. refl) (λ x. refl)
    (reads-both (taken (space_in w)) (taken thread_in) (λ s. decimal s.0 ∷ []) (λ t. decimal t.0 ∷ []) (λ s. s.0 < length w.spaces) (λ t. t.0 ≤ MAX_THREADS - 1)
    (reads-taken (space_in w) (λ s. decimal s.0) (λ s. s.0 < length w.spaces) (reads-space w few))
    (reads-taken thread_in (λ t. decimal t.0) (λ t. t.0 ≤ MAX_THREADS - 1) reads-thread))

abbrev pub named_of : Point → Named
named_of x = record { space = x.space; thread = x.thread }

abbrev pub PointFits : WorkloadView → Point → Type 0
PointFits w x = NamedFits w (named_of x) × ((0 ≤ x.place) × (x.place ≤ MAX_INSTRUCTIONS - 1))

pub reads-point : (w : WorkloadView) → length w.spaces < 2 ^ 64 → Reads (point_at w) point_words (PointFits w)
reads-point w few =
    reads-made (both (thread_at w) (taken place_in)) (λ x. thread_words x.0.space x.0.thread ++ decimal x.1 ∷ [])
    (λ x. NamedFits w x.0 × ((0 ≤ x.1) × (x.1 ≤ MAX_INSTRUCTIONS - 1)))
    point (λ x. (named_of x, x.place)) (λ x. refl) (λ x. refl)
    (reads-both (thread_at w) (taken place_in) (λ x. thread_words x.space x.thread) (λ n. decimal n ∷ []) (NamedFits w)
    (λ n. (0 ≤ n) × (n ≤ MAX_INSTRUCTIONS - 1))
    (reads-named w few)
    (reads-taken place_in decimal (λ n. (0 ≤ n) × (n ≤ MAX_INSTRUCTIONS - 1)) (reads-number 0 (MAX_INSTRUCTIONS - 1) (omega arith))))

-- a word
word-back : (p : List ℕ) (word : Word) → word_in p ≡ Ok word → (p ≡ word_text word) × Unit {0}
word-back p word h =
    (sym ((bytes_eq-Decides (word_text word) p).0 (find-passes (has_text p) WORDS word (or_cause-ok (find (has_text p) WORDS) BadWord word h))), tt)

word-forth : (word : Word) → Unit {0} → word_in (word_text word) ≡ Ok word
word-forth Break u = refl
word-forth Clear u = refl
word-forth Halt u = refl
word-forth Go u = refl
word-forth Step u = refl
word-forth Run u = refl
word-forth Show u = refl
word-forth Quit u = refl

pub reads-word : ReadsPiece word_in word_text (λ word. Unit {0})
reads-word = record { back = word-back; forth = word-forth }
