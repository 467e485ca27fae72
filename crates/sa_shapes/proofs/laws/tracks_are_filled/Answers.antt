use Rattle.sa_shapes.proofs.Fills.{all-fill, all-placed}
use Rattle.sa_shapes.proofs.Shows.{all-shown, all-constant, all-end}
use Rattle.sa_shapes.proofs.laws.tracks_are_filled.Goals as goal

pub returns-clause-filled : goal.returns-clause-filled
returns-clause-filled c = all-fill

pub returns-clause-places : goal.returns-clause-places
returns-clause-places c = all-placed

pub returns-clause-shown : goal.returns-clause-shown
returns-clause-shown c = λ w items t. all-shown w t items

pub returns-clause-constant : goal.returns-clause-constant
returns-clause-constant c = λ w items t. all-constant w t items

pub returns-clause-ends : goal.returns-clause-ends
returns-clause-ends c = λ w items t. all-end w t items
