-- `sayings::put_from_12` meets its contract: each arm writes the words and places that its number has. Assumes nothing.
use Rattle.text.specs.Fields.{fields}
use Rattle.text.specs.Words.{bytes_of}
use Rattle.phrases.specs.Said.{saying_text}
use Rattle.phrases.specs.Saying.{saying_in}
use Rattle.sayings.specs.Sayings.{sayings_from12}
use Rattle.sayings.proofs.put_from_12.Goals as goal

pub returns-in-13 : goal.returns-in-13
unfolding saying_text saying_in sayings_from12 bytes_of fields
returns-in-13 c = rw c.in-13.is c.put_one.ensures

pub returns-in-14 : goal.returns-in-14
unfolding saying_text saying_in sayings_from12 bytes_of fields
returns-in-14 c = rw c.in-14.is c.put_word.ensures

pub returns-in-15 : goal.returns-in-15
unfolding saying_text saying_in sayings_from12 bytes_of fields
returns-in-15 c = rw c.in-15.is c.put_word-in-15.ensures
