-- `sayings::put_from_8` meets its contract: each arm writes the words and places that its number has. Assumes nothing.
use Rattle.text.specs.Fields.{fields}
use Rattle.text.specs.Words.{bytes_of}
use Rattle.phrases.specs.Said.{saying_text}
use Rattle.phrases.specs.Saying.{saying_in}
use Rattle.sayings.specs.Sayings.{sayings_from8}
use Rattle.sayings.proofs.put_from_8.Goals as goal

pub returns-in-8 : goal.returns-in-8
unfolding saying_text saying_in sayings_from8 bytes_of fields
returns-in-8 c = rw c.in-8.is c.put_word.ensures

pub returns-in-9 : goal.returns-in-9
unfolding saying_text saying_in sayings_from8 bytes_of fields
returns-in-9 c = rw c.in-9.is c.put_word-in-9.ensures

pub returns-in-10 : goal.returns-in-10
unfolding saying_text saying_in sayings_from8 bytes_of fields
returns-in-10 c = rw c.in-10.is c.put_one.ensures

pub returns-in-11 : goal.returns-in-11
unfolding saying_text saying_in sayings_from8 bytes_of fields
returns-in-11 c = rw c.in-11.is c.put_word-in-11.ensures
