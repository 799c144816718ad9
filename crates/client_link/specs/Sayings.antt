-- What a client says over a link.
use Rattle.client_link.specs.declared.saying.Saying.{Saying}
use Rattle.client_link.specs.declared.saying.Saying.TheVariants.{Join, Message}
use Rattle.link_texts.specs.Joins.{join_val}
use Rattle.rooms_val.specs.Data.{Data}
use Rattle.wire_msgs.specs.Messages.{client_val}

-- the value of what is said
abbrev pub saying_val : Saying → Data
saying_val (Join join) = join_val join
saying_val (Message message) = client_val message
