-- A piece that is written bit by bit.
use Rattle.std.proofs.Common.{◌≡◌, ℕ, ◌-◌, List, ◌++◌, length, take, drop, sym, ap, subst, ◌∙◌, append_assoc, take-append-drop}
use Rattle.std.proofs.Math.Seq.{take-append_seam}
use Rattle.std.proofs.lemmas.List.{take_rest}
use Rattle.std.specs.Prelude.{Option}
use Rattle.std.specs.Io.KnownBytes.{Appends, Keeps}
use Rattle.std.proofs.KnownBytes.{Appends-trans, Appends-kept}
use Rattle.sa_io.specs.Faults.{AppendsPrefix}

-- the writer got what is gone from the front of the piece, and the rest is still to be written
pub record HasWritten (old new : Option (List ℕ)) (piece rest : List ℕ) : Type 0 where
  pub done : List ℕ
  pub split : piece ≡ done ++ rest
  pub appended : Appends old new done

-- the writer took n more bytes
pub HasWritten-more : (old mid new : Option (List ℕ)) (piece rest later : List ℕ) (n : ℕ) → HasWritten old mid piece rest
    → Appends mid new (take n rest) → later ≡ take (length rest - n) (drop n rest) → HasWritten old new piece later
HasWritten-more old mid new piece rest later n written more is = record {
  done = written.done ++ take n rest;
  split = written.split ∙ ap (λ l. written.done ++ l) (sym (take-append-drop n rest))
      ∙ sym (append_assoc written.done (take n rest) (drop n rest))
      ∙ ap (λ l. (written.done ++ take n rest) ++ l) (sym (is ∙ take_rest rest n));
  appended = Appends-trans old mid new written.done (take n rest) written.appended more;
}

-- the writer took nothing
pub HasWritten-kept : (old mid new : Option (List ℕ)) (piece rest : List ℕ) → HasWritten old mid piece rest → Keeps mid new
    → HasWritten old new piece rest
HasWritten-kept old mid new piece rest written kept = record {
  done = written.done;
  split = written.split;
  appended = Appends-kept old mid new written.done written.appended kept;
}

-- what is written is a prefix of the piece
pub HasWritten-prefix : (old new : Option (List ℕ)) (piece rest : List ℕ) → HasWritten old new piece rest
    → AppendsPrefix old new piece
HasWritten-prefix old new piece rest written =
    let front = ap (take (length written.done)) written.split ∙ take-append_seam written.done rest in
    (length written.done, subst (Appends old new) (sym front) written.appended)
