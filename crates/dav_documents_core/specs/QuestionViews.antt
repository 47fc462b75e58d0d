-- What a contract sees of a question.
use Rattle.std.specs.Prelude.{map}
use Rattle.dav_xml_core.specs.Views.{name_of}
use Rattle.dav_documents_core.specs.declared.property_questions.Question as code
use Rattle.dav_documents_core.specs.declared.property_questions.Question.TheVariants as asked
use Rattle.dav_documents_core.specs.PropertyQuestions.{Question, All, Names, Listed}

abbrev pub question_of : code.Question → Question
question_of (asked.All included) = All (map name_of included.items)
question_of asked.Names = Names
question_of (asked.Listed names) = Listed (map name_of names.items)
