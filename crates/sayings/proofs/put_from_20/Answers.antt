-- `sayings::put_from_20` meets its contract: each arm writes the words and places that its number has. Assumes nothing.
use Rattle.std.proofs.Common.{rules}
use Rattle.text.specs.Fields.{fields}
use Rattle.text.specs.Words.{bytes_of}
use Rattle.phrases.specs.Said.{saying_text}
use Rattle.phrases.specs.Saying.{saying_in}
use Rattle.sayings.proofs.Turns.{said_later}
use Rattle.sayings.specs.Sayings.{sayings_from20}
use Rattle.sayings.proofs.put_from_20.Goals as goal

pub returns-in-20 : goal.returns-in-20
unfolding saying_text saying_in sayings_from20 bytes_of fields
returns-in-20 c = rw c.in-20.is c.put_two.ensures

pub returns-in-21 : goal.returns-in-21
unfolding saying_text saying_in sayings_from20 bytes_of fields
returns-in-21 c = rw c.in-21.is c.put_three.ensures

pub returns-in-22 : goal.returns-in-22
unfolding saying_text saying_in sayings_from20 bytes_of fields
returns-in-22 c = rw c.in-22.is c.put_one.ensures

pub returns-in_default : goal.returns-in_default
unfolding saying_text saying_in sayings_from20 bytes_of fields
returns-in_default c = search (rules, said_later)
