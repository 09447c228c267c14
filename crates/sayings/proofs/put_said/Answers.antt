-- `sayings::put_said` meets its contract: each arm writes the words and places that its number has. Assumes nothing.
use Rattle.text.specs.Fields.{fields}
use Rattle.text.specs.Words.{bytes_of}
use Rattle.phrases.specs.Said.{saying_text}
use Rattle.sayings.specs.Said.{said_of}
use Rattle.phrases.specs.Saying.{saying_in}
use Rattle.sayings.specs.Sayings.{sayings}
use Rattle.sayings.proofs.put_said.Goals as goal

pub returns-in-0 : goal.returns-in-0
unfolding said_of saying_text saying_in sayings bytes_of fields
returns-in-0 c = rw c.in-0.is c.put_word.ensures

pub returns-in-1 : goal.returns-in-1
unfolding said_of saying_text saying_in sayings bytes_of fields
returns-in-1 c = rw c.in-1.is c.put_one.ensures

pub returns-in-2 : goal.returns-in-2
unfolding said_of saying_text saying_in sayings bytes_of fields
returns-in-2 c = rw c.in-2.is c.put_word-in-2.ensures

pub returns-in-3 : goal.returns-in-3
unfolding said_of saying_text saying_in sayings bytes_of fields
returns-in-3 c = rw c.in-3.is c.put_word-in-3.ensures
