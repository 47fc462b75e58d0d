-- What a call answers, by what its definition gives.
use Rattle.std.specs.Prelude.{◌≡◌, Option, None, Some, Result, Ok, Err, IfSome}
use Rattle.dav_xml_core.specs.Refusals.{XmlRefusal, NotWellFormed, DocumentType, Encoding}
use Rattle.dav_xml_core.specs.declared.davxml.errors.Fault.{Fault}
use Rattle.dav_xml_core.specs.declared.davxml.errors.Fault.TheVariants.{Malformed, Memory}
use Rattle.dav_xml_core.specs.declared.davxml.errors.Halt.{Halt}
use Rattle.dav_xml_core.specs.declared.davxml.errors.Halt.TheVariants as halts
use Rattle.dav_xml_core.specs.declared.davxml.errors.XmlError.{XmlError}
use Rattle.dav_xml_core.specs.declared.davxml.errors.XmlError.TheVariants as errors

abbrev pub Refuses : {U : Type 0} → Fault → Option U → Type 0
Refuses Malformed expected = expected ≡ None
Refuses Memory expected = Unit {0}

-- Ok exactly with the value that is expected, which `view` shows, and `Malformed` only where none is. It may run out of memory
-- in place of either.
abbrev pub Gives : {T U : Type 0} → (T → U) → Result T Fault → Option U → Type 0
Gives view (Ok x) expected = expected ≡ Some (view x)
Gives view (Err e) expected = Refuses e expected

-- why a part isn't read, where its place is this; nothing where there is no memory
abbrev pub fault_refusal : Fault → XmlRefusal → Option XmlRefusal
fault_refusal Malformed refusal = Some refusal
fault_refusal Memory refusal = None

abbrev pub halt_refusal : Halt → Option XmlRefusal
halt_refusal (halts.Malformed left) = Some (NotWellFormed left)
halt_refusal halts.DocumentType = Some DocumentType
halt_refusal halts.Encoding = Some Encoding
halt_refusal halts.Memory = None

abbrev pub error_refusal : XmlError → Option XmlRefusal
error_refusal (errors.NotWellFormed at) = Some (NotWellFormed at)
error_refusal errors.DocumentType = Some DocumentType
error_refusal errors.Encoding = Some Encoding
error_refusal errors.OutOfMemory = None

-- Ok or a refusal, each exactly as expected. It may run out of memory in place of either.
abbrev pub AnswersWithReason : {T U E : Type 0} → (T → U) → (E → Option XmlRefusal) → Result T E → Result U XmlRefusal → Type 0
AnswersWithReason view reason (Ok x) expected = expected ≡ Ok (view x)
AnswersWithReason view reason (Err e) expected = IfSome (reason e) (λ refusal. expected ≡ Err refusal)

abbrev pub IsRefused : {U : Type 0} → XmlError → Option U → Type 0
IsRefused (errors.NotWellFormed at) expected = expected ≡ None
IsRefused errors.DocumentType expected = expected ≡ None
IsRefused errors.Encoding expected = expected ≡ None
IsRefused errors.OutOfMemory expected = Unit {0}

-- Ok exactly with what is expected, and a refusal only where nothing is. It may run out of memory in place of either.
abbrev pub IsReadAs : {T U : Type 0} → (T → U) → Result T XmlError → Option U → Type 0
IsReadAs view (Ok x) expected = expected ≡ Some (view x)
IsReadAs view (Err e) expected = IsRefused e expected
