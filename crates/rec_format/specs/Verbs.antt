-- The words by which a recording says what an event does.
use Rattle.std.specs.Prelude.{ℕ, List, codes}
use Rattle.rec_format.specs.declared.verb.Verb.{Verb}
use Rattle.rec_format.specs.declared.verb.Verb.TheVariants as verb

-- the word of a verb
abbrev pub word_of : Verb → List ℕ
word_of verb.Client = codes "client"
word_of verb.Connect = codes "connect"
word_of verb.Edit = codes "edit"
word_of verb.Presence = codes "presence"
word_of verb.Mark = codes "mark"
word_of verb.Undo = codes "undo"
word_of verb.Redo = codes "redo"
word_of verb.Bail = codes "bail"
word_of verb.Copy = codes "copy"
word_of verb.Paste = codes "paste"
word_of verb.Handle = codes "handle"
word_of verb.Send = codes "send"
word_of verb.Deliver = codes "deliver"
word_of verb.Cut = codes "cut"
word_of verb.Lose = codes "lose"
word_of verb.Watch = codes "watch"
word_of verb.Query = codes "query"
word_of verb.Show = codes "show"
word_of verb.End = codes "end"
