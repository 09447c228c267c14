-- What is said of one refusal, as bytes. Assumes nothing.
use Rattle.std.specs.Prelude.{List, ◌++◌, ℕ}
use Rattle.text.specs.Fields.{fields}
use Rattle.text.specs.Words.{bytes_of}
use Rattle.phrases.specs.Saying.{Saying}

-- the words, and each place behind one blank
unfoldable pub saying_text : Saying → List ℕ
saying_text s = bytes_of s.words ++ fields s.places
