-- Replies as bytes (RFC 9112, sections 2 and 4, and RFC 9110, sections 8.6, 10.2.1 and 15).
use Rattle.std.specs.Prelude.{ℕ, ◌≡◌, ◌⊎◌, Bool, true, false, ◌==◌, if◌then◌else◌, List, [], ◌∷◌, ◌++◌, length, codes, decimal}
use Rattle.http_sessions.specs.declared.refusal.Refusal.{Refusal}
use Rattle.http_sessions.specs.declared.refusal.Refusal.TheVariants.{HeadTooLarge, BadHead, NotFound, MethodNotAllowed, NotImplemented, LengthRequired, BadLength, BodyTooLarge}
use Rattle.http_sessions.specs.declared.reply.ReplyBytes.{ReplyBytes}
use Rattle.http_sessions.specs.declared.reply.ReplyBytes.TheVariants.{Made, NoMemory}
use Rattle.http_sessions.specs.declared.reply.Reply.{Reply}
use Rattle.http_sessions.specs.declared.reply.Note.{Note}

-- the status of a reply to a framed body
abbrev pub IsReplyStatus : ℕ → Type 0
IsReplyStatus status = (status ≡ 200) ⊎ ((status ≡ 400) ⊎ ((status ≡ 500) ⊎ (status ≡ 503)))

-- an error without a position, of characters that JSON doesn't escape
abbrev pub error_text : List ℕ → List ℕ
error_text message = codes "{\"errors\":[{\"message\":\"" ++ (message ++ codes "\"}]}")

-- the body of a reply
abbrev pub text_of : ReplyBytes → List ℕ
text_of (Made bytes) = bytes
text_of NoMemory = error_text (codes "out of memory")

abbrev pub note_of : Reply → Note
note_of r = record { front = r.front; planned = r.planned; statements = r.statements }

-- ---- the text of a reply

abbrev pub crlf : List ℕ
crlf = 13 ∷ 10 ∷ []

-- a status with its reason
abbrev pub status_text : ℕ → List ℕ
status_text status =
    if status == 200 then codes "200 OK"
    else (if status == 400 then codes "400 Bad Request"
    else (if status == 404 then codes "404 Not Found"
    else (if status == 405 then codes "405 Method Not Allowed"
    else (if status == 411 then codes "411 Length Required"
    else (if status == 413 then codes "413 Content Too Large"
    else (if status == 431 then codes "431 Request Header Fields Too Large"
    else (if status == 500 then codes "500 Internal Server Error"
    else (if status == 501 then codes "501 Not Implemented"
    else codes "503 Service Unavailable"))))))))

abbrev pub if_so : Bool → List ℕ → List ℕ
if_so true text = text
if_so false text = []

-- the head of a reply with a body of a size: lines, and an empty one
unfoldable pub reply_head : Bool → ℕ → ℕ → ℕ → List ℕ
reply_head closes status front size =
    codes "HTTP/1.1 " ++ status_text status
    ++ codes "\r\nContent-Type: application/json\r\nContent-Length: " ++ decimal size
    ++ codes "\r\nData-Version: " ++ decimal front
    ++ crlf
    ++ if_so (status == 405) (codes "Allow: POST\r\n")
    ++ if_so closes (codes "Connection: close\r\n")
    ++ crlf

-- a reply, and whether the session ends after it
abbrev pub reply_text : Bool → ℕ → ℕ → List ℕ → List ℕ
reply_text closes status front text = reply_head closes status front (length text) ++ text

abbrev pub reply_of : Bool → Reply → List ℕ
reply_of closes r = reply_text closes r.status r.front (text_of r.bytes)

-- ---- refusals

abbrev pub status_of : Refusal → ℕ
status_of HeadTooLarge = 431
status_of BadHead = 400
status_of NotFound = 404
status_of MethodNotAllowed = 405
status_of NotImplemented = 501
status_of LengthRequired = 411
status_of BadLength = 400
status_of BodyTooLarge = 413

abbrev pub message_of : Refusal → List ℕ
message_of HeadTooLarge = codes "head too large"
message_of BadHead = codes "bad head"
message_of NotFound = codes "not found"
message_of MethodNotAllowed = codes "method not allowed"
message_of NotImplemented = codes "not implemented"
message_of LengthRequired = codes "length required"
message_of BadLength = codes "bad length"
message_of BodyTooLarge = codes "body too large"

abbrev pub refusal_body : Refusal → List ℕ
refusal_body refusal = error_text (message_of refusal)

-- a refusal has the version that was known before it, and ends the session
abbrev pub refusal_text : ℕ → Refusal → List ℕ
refusal_text front refusal = reply_text true (status_of refusal) front (refusal_body refusal)

-- ---- the word before a body

abbrev pub continue_text : List ℕ
continue_text = codes "HTTP/1.1 100 Continue\r\n\r\n"
