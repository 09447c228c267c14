-- `sayings::put_from_16` meets its contract: each arm writes the words and places that its number has. Assumes nothing.
use Rattle.text.specs.Fields.{fields}
use Rattle.text.specs.Words.{bytes_of}
use Rattle.phrases.specs.Said.{saying_text}
use Rattle.phrases.specs.Saying.{saying_in}
use Rattle.sayings.specs.Sayings.{sayings_from16}
use Rattle.sayings.proofs.put_from_16.Goals as goal

pub returns-in-16 : goal.returns-in-16
unfolding saying_text saying_in sayings_from16 bytes_of fields
returns-in-16 c = rw c.in-16.is c.put_word.ensures

pub returns-in-18 : goal.returns-in-18
unfolding saying_text saying_in sayings_from16 bytes_of fields
returns-in-18 c = rw c.in-18.is c.put_one.ensures

pub returns-in-19 : goal.returns-in-19
unfolding saying_text saying_in sayings_from16 bytes_of fields
returns-in-19 c = rw c.in-19.is c.put_word-in-19.ensures
