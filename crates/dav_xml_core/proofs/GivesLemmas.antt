-- From one kind of refusal to another.
use Rattle.std.proofs.Common.{◌≡◌, sym, ap, ◌∙◌, Option, None, Some, Result, Err}
use Rattle.std.specs.Prelude.{option_map, IfSome}
use Rattle.std.specs.Option.{ok_or}
use Rattle.std.specs.Result.{result_ok}
use Rattle.dav_xml_core.specs.Gives.{Refuses, AnswersWithReason, IsRefused, fault_refusal, halt_refusal, error_refusal}
use Rattle.dav_xml_core.specs.Refusals.{XmlRefusal, NotWellFormed}
use Rattle.dav_xml_core.specs.declared.davxml.errors.Fault.{Fault}
use Rattle.dav_xml_core.specs.declared.davxml.errors.Fault.TheVariants.{Malformed, Memory}
use Rattle.dav_xml_core.specs.declared.davxml.errors.Halt.{Halt}
use Rattle.dav_xml_core.specs.declared.davxml.errors.Halt.TheVariants as halts
use Rattle.dav_xml_core.specs.declared.davxml.errors.XmlError.{XmlError}
use Rattle.dav_xml_core.specs.declared.davxml.errors.XmlError.TheVariants as errors

-- a missing value is where the text ends too early
pub answers_at_end : {T U : Type 0} (view : T → U) (o : Option T) (expected : Option U) (r : Result T Halt) → option_map view o ≡ expected → r ≡ ok_or o (halts.Malformed 0)
    → AnswersWithReason view halt_refusal r (ok_or expected (NotWellFormed 0))
answers_at_end view (Some x) expected r e is = rw is (ap (λ o. ok_or o (NotWellFormed 0)) (sym e))
answers_at_end view None expected r e is = rw is (ap (λ o. ok_or o (NotWellFormed 0)) (sym e))

-- a fault in a part stops the whole
pub stops_at : {U V : Type 0} (fault : Fault) (halt : Halt) (refusal : XmlRefusal) (part : Option U) (whole : Result V XmlRefusal) → halt_refusal halt ≡ fault_refusal fault refusal
    → Refuses fault part → (part ≡ None → whole ≡ Err refusal) → IfSome (halt_refusal halt) (λ reason. whole ≡ Err reason)
stops_at Malformed halt refusal part whole e h stopped = rw e (stopped h)
stops_at Memory halt refusal part whole e h stopped = rw e tt

-- what is answered with a refusal is refused
pub refused_as : {U : Type 0} (error : XmlError) (answer : Result U XmlRefusal) (expected : Option U) → result_ok answer ≡ expected
    → IfSome (error_refusal error) (λ refusal. answer ≡ Err refusal) → IsRefused error expected
refused_as (errors.NotWellFormed at) answer expected e h = sym e ∙ ap result_ok h
refused_as errors.DocumentType answer expected e h = sym e ∙ ap result_ok h
refused_as errors.Encoding answer expected e h = sym e ∙ ap result_ok h
refused_as errors.OutOfMemory answer expected e h = tt
