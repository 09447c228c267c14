-- `sayings::put_from_4` meets its contract: each arm writes the words and places that its number has. Assumes nothing.
use Rattle.text.specs.Fields.{fields}
use Rattle.text.specs.Words.{bytes_of}
use Rattle.phrases.specs.Said.{saying_text}
use Rattle.phrases.specs.Saying.{saying_in}
use Rattle.sayings.specs.Sayings.{sayings_from4}
use Rattle.sayings.proofs.put_from_4.Goals as goal

pub returns-in-4 : goal.returns-in-4
unfolding saying_text saying_in sayings_from4 bytes_of fields
returns-in-4 c = rw c.in-4.is c.put_two.ensures

pub returns-in-5 : goal.returns-in-5
unfolding saying_text saying_in sayings_from4 bytes_of fields
returns-in-5 c = rw c.in-5.is c.put_one.ensures

pub returns-in-6 : goal.returns-in-6
unfolding saying_text saying_in sayings_from4 bytes_of fields
returns-in-6 c = rw c.in-6.is c.put_two-in-6.ensures

pub returns-in-7 : goal.returns-in-7
unfolding saying_text saying_in sayings_from4 bytes_of fields
returns-in-7 c = rw c.in-7.is c.put_four.ensures
